use Rattle.std.proofs.Common.{take}
use Rattle.ck_model.specs.Numbered.{IsIn}
use Rattle.ck_words.specs.Passes.{PassState}
use Rattle.ck_words.specs.StripeSets.{list_of}
use Rattle.ck_words.specs.Holding.{HasTaken, Misses}
use Rattle.ck_words.proofs.words.Words.lock_set_later.Given as goal

abbrev pub invariant-loop-j : goal.invariant-loop-j
invariant-loop-j g l = (p : PassState g.row.V.Denot) → Misses g.K.TableKey.hash l.self (list_of l.set) l.fn.i p l.fn.pass
    → HasTaken g.K.TableKey.hash l.self (λ t. IsIn t (list_of l.set)) (take l.j (list_of l.set)) p l.pass
