use Rattle.ck_words.specs.Closing.{Gathered}
use Rattle.ck_words.proofs.words.Words.gather_all.Given as goal

abbrev pub invariant-loop-other : goal.invariant-loop-other
invariant-loop-other g l = Gathered g.K.TableKey.hash l.self l.initial.first l.yielded l.first
