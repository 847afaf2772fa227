use Rattle.std.proofs.Common.{◌≡◌}
use Rattle.ck_section.proofs.Cleared.{cleared}
use Rattle.ck_stripe.proofs.Stepwise.{changed_to}
use Rattle.ck_section.proofs.whole.clear_all.Given as goal

abbrev pub invariant-loop-i : goal.invariant-loop-i
invariant-loop-i g l = l.stripes ≡ changed_to cleared l.i l.initial.stripes
