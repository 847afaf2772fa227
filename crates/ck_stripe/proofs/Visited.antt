-- A visit that leaves the stripe as it was.
use Rattle.std.proofs.Common.{◌≡◌, ◌∙◌, ℕ, List, ap}
use Rattle.std.specs.Prelude.{slice_set}
use Rattle.std.proofs.lemmas.List.{set-get_or}
use Rattle.ck_stripe.specs.Stripe.{StripeState}
use Rattle.ck_stripe.specs.Stripes.{stripe_at, no_stripe}

module _ {V : Type 0} where
  pub none_changed : (old new : List (StripeState V)) (i : ℕ) → new ≡ slice_set old i (stripe_at new i) → stripe_at new i ≡ stripe_at old i → new ≡ old
  none_changed old new i others same = others ∙ (ap (λ (t : StripeState V). slice_set old i t) same ∙ set-get_or old i no_stripe)
