-- Buckets of held stripes, as a list.
use Rattle.std.specs.Prelude.{ℕ, List, All, map, flat_map}
use Rattle.ck_model.specs.Promise.{Name}
use Rattle.ck_model.specs.Slots.{taken_in}
use Rattle.ck_stripe.specs.Stripe.{StripeState}
use Rattle.ck_stripe.specs.Stripes.{bucket_at, IsInReach}
use Rattle.ck_section.specs.declared.place.HeldBucket.{HeldBucket}

-- as they are numbered in the table
abbrev pub numbers_of : List HeldBucket → List ℕ
numbers_of buckets = map (λ (b : HeldBucket). b.bucket) buckets

module _ {V : Type 0} where
  -- each may be looked into
  abbrev pub AreInReach : List (StripeState V) → List HeldBucket → Type 0
  AreInReach stripes buckets = All (λ (b : HeldBucket). IsInReach stripes b.index b.bucket) buckets

  -- what is in their slots
  abbrev pub pairs_there : List (StripeState V) → List HeldBucket → List (Name × V)
  pairs_there stripes buckets = flat_map (λ (b : HeldBucket). taken_in (bucket_at stripes b.index b.bucket)) buckets
