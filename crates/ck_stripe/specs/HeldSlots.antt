-- Slots of held stripes.
use Rattle.std.specs.Prelude.{ℕ, ◌<◌, List, IsSome}
use Rattle.ck_model.specs.Slots.{Slot, slot_at}
use Rattle.ck_stripe.specs.Stripe.{StripeState, with_slot}
use Rattle.ck_stripe.specs.declared.held_slot.HeldSlot.{HeldSlot}
use Rattle.ck_stripe.specs.Stripes.{stripe_at, bucket_at, set_content}

-- this slot of bucket b of stripe i
abbrev pub at : ℕ → ℕ → ℕ → HeldSlot
at i b slot = record { index = i; bucket = b; slot = slot }

module _ {V : Type 0} where
  -- what is in the slot
  abbrev pub slot_in : List (StripeState V) → HeldSlot → Slot V
  slot_in stripes at = slot_at (bucket_at stripes at.index at.bucket) at.slot

  -- the stripes with this in the slot, and with this ledger in its stripe
  abbrev pub set_slot : List (StripeState V) → HeldSlot → Slot V → ℕ → List (StripeState V)
  set_slot stripes at slot ledger = set_content stripes at.index (with_slot (stripe_at stripes at.index) at.bucket at.slot slot ledger)

  -- no lower slot of its bucket is free
  abbrev pub IsLowest : List (StripeState V) → HeldSlot → Type 0
  IsLowest stripes at = (j : ℕ) → j < at.slot → IsSome (slot_at (bucket_at stripes at.index at.bucket) j)
