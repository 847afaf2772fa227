use Rattle.std.proofs.Common.{◌≡◌}
use Rattle.ck_stripe.proofs.Splits.{emptied_to}
use Rattle.ck_stripe.proofs.stripe.empty_all.Given as goal

abbrev pub invariant-loop-row : goal.invariant-loop-row
invariant-loop-row g l = l.rows ≡ emptied_to l.initial.rows l.row
