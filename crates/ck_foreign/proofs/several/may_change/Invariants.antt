use Rattle.std.proofs.Common.{ℕ, ◌<◌, Option, get_or}
use Rattle.std.specs.Prelude.{IsSome}
use Rattle.ck_foreign.specs.Several.{changed_by}
use Rattle.ck_foreign.proofs.several.may_change.Given as goal

abbrev pub invariant-loop-i : goal.invariant-loop-i
invariant-loop-i g l = record { so_far : (j : ℕ) (d : Option ℕ) → j < l.i → IsSome (get_or (changed_by g.C.Change.made l.changes l.values) j d) }
