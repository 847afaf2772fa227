-- Stripes that are held, by their numbers.
use Rattle.std.proofs.Common.{ℕ, zero, suc, ◌^◌, ◌<◌, ⊎_elim, inl, inr, List, [], ◌∷◌, sym, subst, arith}
use Rattle.ck_model.specs.Contents.{IsBucketOf}
use Rattle.ck_model.specs.Promise.{Name}
use Rattle.ck_model.specs.Numbered.{IsIn, numbers}
use Rattle.ck_model.proofs.Buckets.{index_below, second_below}
use Rattle.ck_stripe.specs.Stripe.{StripeState}
use Rattle.ck_stripe.specs.Stripes.{contents_of}
use Rattle.ck_stripe.specs.Tables.{HasStripe}

-- a bucket of the name at this power is one of the table's, and a stripe of it one of 2^s
pub own_below : (hash : Name → ℕ) (p : ℕ) (q : Name) (b : ℕ) → IsBucketOf hash p q b → b < 2 ^ p
own_below hash p q b of = ⊎_elim
    (λ e. subst (λ n. n < 2 ^ p) (sym e) (index_below p (hash q)))
    (λ e. subst (λ n. n < 2 ^ p) (sym e) (second_below p (hash q))) of

module _ {V : Type 0} where
  -- a stripe that stands in the list is held by its number
  pub in_contents : (ss : List (StripeState V)) (t : ℕ) → HasStripe ss t → IsIn t (numbers (contents_of ss))
  in_contents [] t h = absurd (omega (arith, h.1))
  in_contents (s ∷ ss) t (zero, _, e) = inl e
  in_contents (s ∷ ss) t (suc i, lt, e) = inr (in_contents ss t (i, omega (arith, lt), e))

  pub has_stripe : (ss : List (StripeState V)) (t : ℕ) → IsIn t (numbers (contents_of ss)) → HasStripe ss t
  has_stripe [] t i = absurd i
  has_stripe (s ∷ ss) t i = ⊎_elim (λ e. (zero, omega arith, e)) (λ r. let x = has_stripe ss t r in (suc x.0, omega (arith, x.1), x.2)) i
