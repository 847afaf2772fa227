-- Room for several names at once, among stripes that are held.
use Rattle.std.specs.Prelude.{◌≡◌, ◌≢◌, ◌⊎◌, ℕ, ◌+◌, ◌*◌, ◌≤◌, List, [], ◌∷◌, length, flat_map, Bool, false, ◌&&◌, ◌||◌, ◌==◌, is_none, if◌then◌else◌, IfSome}
use Rattle.std.specs.FinMap.{find}
use Rattle.ck_model.specs.Arithmetic.{index_of, second_of}
use Rattle.ck_model.specs.Promise.{Name, name_cmp}
use Rattle.ck_model.specs.Numbered.{IsIn}
use Rattle.ck_model.specs.Slots.{Slot, slot_at, taken_in}
use Rattle.ck_model.specs.Contents.{Layout, layout, Stripes, Lawful, power_of, bucket_in}
use Rattle.ck_stripe.specs.Stripe.{StripeState}
use Rattle.ck_stripe.specs.Stripes.{bucket_at, contents_of}

module _ {V : Type 0} where
  -- the slot is free, or has the name
  abbrev pub IsFreeFor : Name → Slot V → Type 0
  IsFreeFor q slot = IfSome slot (λ e. e.0 ≡ q)

  -- it has what it had, or was free or had the name, and is so
  abbrev pub IsKept : Name → Slot V → Slot V → Type 0
  IsKept q old new = (new ≡ old) ⊎ (IsFreeFor q old × IsFreeFor q new)

  -- each slot is kept so
  abbrev pub KeepsOthers : Name → List (StripeState V) → List (StripeState V) → Type 0
  KeepsOthers q old new = (i b slot : ℕ) → IsKept q (slot_at (bucket_at old i b) slot) (slot_at (bucket_at new i b) slot)

  -- what is in the slots of these buckets
  abbrev pub pairs_at : Layout → Stripes V → List ℕ → List (Name × V)
  pairs_at k hs bs = flat_map (λ (b : ℕ). taken_in (bucket_in k hs b)) bs

  -- whether one of these buckets is one of the name's two
  abbrev pub has_bucket : Layout → Stripes V → List ℕ → Name → Bool
  has_bucket k hs [] q = false
  has_bucket k hs (b ∷ bs) q = (b == index_of (power_of hs) (k.hash q)) || (b == second_of (power_of hs) (k.hash q)) || has_bucket k hs bs q

  -- whether the name has one of these buckets and stands in none of them, so that it may come there
  abbrev pub may_come : Layout → Stripes V → List ℕ → Name → Bool
  may_come k hs bs q = has_bucket k hs bs q && is_none (find name_cmp q (pairs_at k hs bs))

  -- how many of the names may come to these buckets
  abbrev pub coming : Layout → Stripes V → List ℕ → List Name → ℕ
  coming k hs bs [] = 0
  coming k hs bs (q ∷ qs) = (if may_come k hs bs q then 1 else 0) + coming k hs bs qs

  -- these buckets have a free slot for each of the names that may come there
  abbrev pub HasSlots : Layout → Stripes V → List Name → List ℕ → Type 0
  HasSlots k hs qs bs = coming k hs bs qs + length (pairs_at k hs bs) ≤ 4 * length bs

  -- the name's first bucket, its second one, or both where they are two
  abbrev pub AreSomeOf : Layout → Stripes V → Name → List ℕ → Type 0
  AreSomeOf k hs q bs =
      let first = index_of (power_of hs) (k.hash q) in
      let second = second_of (power_of hs) (k.hash q) in
      (bs ≡ first ∷ []) ⊎ (bs ≡ second ∷ []) ⊎ ((first ≢ second) × (bs ≡ first ∷ second ∷ []))

  -- One bucket of each name, or both together, have a free slot for each of the names that may come there. So each name finds a slot, however they are bound and unbound meanwhile.
  abbrev pub HasRoomForAll : Layout → Stripes V → List Name → Type 0
  HasRoomForAll k hs qs = (q : Name) → IsIn q qs → (bs : List ℕ) × AreSomeOf k hs q bs × HasSlots k hs qs bs

  -- the same of lawful stripes that are held, whatever the greatest power is
  abbrev pub HaveRoomForAll : (Name → ℕ) → ℕ → List (StripeState V) → List Name → Type 0
  HaveRoomForAll hash s stripes qs = (max : ℕ) → Lawful (layout hash s max) (contents_of stripes) → HasRoomForAll (layout hash s max) (contents_of stripes) qs
