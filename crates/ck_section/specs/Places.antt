-- Where a name is looked for among held stripes, and where its entry is.
use Rattle.std.specs.Prelude.{◌≡◌, ◌⊎◌, ℕ, ◌<◌, ◌≤◌, List, None, length}
use Rattle.ck_model.specs.Arithmetic.{partial_of, index_of, second_of}
use Rattle.ck_model.specs.Promise.{Name}
use Rattle.ck_model.specs.Slots.{IsFull}
use Rattle.ck_model.specs.Contents.{layout, IsBucketOf}
use Rattle.ck_model.specs.Sections.{Owns}
use Rattle.ck_bucket.specs.Bucket.{LacksName}
use Rattle.ck_stripe.specs.Stripe.{StripeState}
use Rattle.ck_section.specs.declared.place.KeyPlace.{KeyPlace}
use Rattle.ck_stripe.specs.declared.held_slot.HeldSlot.{HeldSlot}
use Rattle.ck_stripe.specs.Stripes.{stripe_at, bucket_at, contents_of, IsInReach}
use Rattle.ck_stripe.specs.HeldSlots.{slot_in, IsLowest}

module _ {V : Type 0} where
  -- the two stripes of the name are held, whatever the greatest power is
  abbrev pub HasBoth : (Name → ℕ) → ℕ → List (StripeState V) → Name → Type 0
  HasBoth hash s stripes q = (max : ℕ) → Owns (layout hash s max) (contents_of stripes) q

  -- The held stripes are stripes of a table of 2^s, and these are the two buckets of the name, in reach.
  pub record IsPlaceOf (hash : Name → ℕ) (stripes : List (StripeState V)) (q : Name) (place : KeyPlace) : Type 0 where
    pub many : place.s ≤ 10
    pub one_s : (i : ℕ) → i < length stripes → (stripe_at stripes i).s ≡ place.s
    pub partial : place.partial ≡ partial_of (hash q)
    pub first_reach : IsInReach stripes place.first.index place.first.bucket
    pub first : place.first.bucket ≡ index_of (stripe_at stripes place.first.index).content.power (hash q)
    pub alternate_reach : IsInReach stripes place.alternate.index place.alternate.bucket
    pub alternate : place.alternate.bucket ≡ second_of (stripe_at stripes place.alternate.index).content.power (hash q)
    pub one : place.first.bucket ≡ place.alternate.bucket → place.first.index ≡ place.alternate.index

  -- the slot is one of a bucket of the name, in reach
  pub record IsSlotOf (hash : Name → ℕ) (stripes : List (StripeState V)) (q : Name) (at : HeldSlot) : Type 0 where
    pub reach : IsInReach stripes at.index at.bucket
    pub below : at.slot < 4
    pub of_name : IsBucketOf hash (stripe_at stripes at.index).content.power q at.bucket

  -- neither bucket has the name
  pub record IsNowhere (stripes : List (StripeState V)) (q : Name) (place : KeyPlace) : Type 0 where
    pub first : LacksName (bucket_at stripes place.first.index place.first.bucket) q
    pub alternate : LacksName (bucket_at stripes place.alternate.index place.alternate.bucket) q

  -- both buckets are full
  pub record AreFull (stripes : List (StripeState V)) (place : KeyPlace) : Type 0 where
    pub first : IsFull (bucket_at stripes place.first.index place.first.bucket)
    pub alternate : IsFull (bucket_at stripes place.alternate.index place.alternate.bucket)

  -- The slot is the lowest free one of the first bucket, else of the alternate one.
  abbrev pub IsNext : List (StripeState V) → KeyPlace → HeldSlot → Type 0
  IsNext stripes place at =
      (slot_in stripes at ≡ None) × IsLowest stripes at
      × (((at.index ≡ place.first.index) × (at.bucket ≡ place.first.bucket))
      ⊎ (IsFull (bucket_at stripes place.first.index place.first.bucket) × (at.index ≡ place.alternate.index) × (at.bucket ≡ place.alternate.bucket)))
