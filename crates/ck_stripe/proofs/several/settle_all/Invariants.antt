use Rattle.std.proofs.Common.{◌≡◌, true}
use Rattle.ck_stripe.specs.Stripe.{StripeState}
use Rattle.ck_stripe.proofs.Stepwise.{changed_to}
use Rattle.ck_stripe.proofs.several.settle_all.Given as goal

abbrev pub invariant-loop-i : goal.invariant-loop-i
invariant-loop-i g l = record {
  stays : g.H.Held.stays l.initial.held l.held;
  settled : g.H.Held.stripes l.held ≡ changed_to (λ (t : StripeState g.row.V.Denot). record t { settled = true }) l.i (g.H.Held.stripes l.initial.held);
}
