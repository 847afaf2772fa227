use Rattle.std.proofs.Common.{◌≡◌, ℕ, ◌<◌, length}
use Rattle.ck_stripe.specs.Stripes.{stripe_at}
use Rattle.ck_stripe.proofs.one_stripe.position.Given as goal

abbrev pub invariant-loop-i : goal.invariant-loop-i
invariant-loop-i g l = record {
  stays : g.H.Held.stays l.fn.held l.held;
  same : g.H.Held.stripes l.held ≡ g.H.Held.stripes l.fn.held;
  found : (j : ℕ) → j < l.i → (stripe_at (g.H.Held.stripes l.fn.held) j).number ≡ l.wanted
      → (l.found < length (g.H.Held.stripes l.fn.held))
      × ((stripe_at (g.H.Held.stripes l.fn.held) l.found).number ≡ l.wanted);
}
