use Rattle.std.proofs.Common.{take}
use Rattle.ck_model.specs.Numbered.{IsIn}
use Rattle.ck_words.specs.Passes.{PassState}
use Rattle.ck_words.specs.StripeSets.{list_of}
use Rattle.ck_words.specs.Holding.{HasTaken}
use Rattle.ck_words.proofs.words.Words.lock_rest.Given as goal

abbrev pub invariant-loop-i : goal.invariant-loop-i
invariant-loop-i g l = (p : PassState g.row.V.Denot) → HasTaken g.K.TableKey.hash l.self (λ t. IsIn t (list_of l.set)) (take 2 (list_of l.set)) p l.fn.pass
    → HasTaken g.K.TableKey.hash l.self (λ t. IsIn t (list_of l.set)) (take l.i (list_of l.set)) p l.pass
