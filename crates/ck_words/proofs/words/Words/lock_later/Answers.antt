use Rattle.std.proofs.Common.{ℕ, List, sym, subst}
use Rattle.ck_words.specs.Passes.{PassState}
use Rattle.ck_words.specs.Holding.{Misses, TakesRest}
use Rattle.ck_words.proofs.words.Words.lock_later.Goals as goal

pub lock_pair_later-requires-clause-missed : goal.lock_pair_later-requires-clause-missed
lock_pair_later-requires-clause-missed g c =
    subst (λ (ns : List ℕ). (p : PassState g.row.V.Denot) × Misses g.K.TableKey.hash c.args.self.now ns c.args.i p c.args.pass.now) c.two-low.ensures.list c.requires.missed

pub returns-then-count-le2 : goal.returns-then-count-le2
returns-then-count-le2 g c =
    subst (λ (ns : List ℕ). TakesRest g.K.TableKey.hash c.args.self.now ns c.args.i c.lock_pair_later.result c.args.pass.now c.lock_pair_later.new.pass) (sym c.two-low.ensures.list) c.lock_pair_later.ensures
