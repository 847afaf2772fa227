use Rattle.std.proofs.Common.{◌≡◌}
use Rattle.ck_stripe.specs.Stripe.{reserved}
use Rattle.ck_stripe.proofs.Stepwise.{changed_to}
use Rattle.ck_section.proofs.double.reserve_all.Given as goal

abbrev pub invariant-loop-i : goal.invariant-loop-i
invariant-loop-i g l = record {
  stays : g.H.Held.stays l.initial.held l.held;
  reserved : g.H.Held.stripes l.held ≡ changed_to reserved l.i (g.H.Held.stripes l.initial.held);
}
