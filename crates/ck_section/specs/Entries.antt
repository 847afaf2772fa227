-- The entry of a name among held stripes.
use Rattle.std.specs.Prelude.{◌≡◌, ℕ, List, Some}
use Rattle.ck_model.specs.Promise.{Name}
use Rattle.ck_stripe.specs.Stripe.{StripeState}
use Rattle.ck_section.specs.declared.entry.Entry.{Entry}
use Rattle.ck_section.specs.declared.entry.Entry.TheVariants.{Occupied, Vacant}
use Rattle.ck_section.specs.declared.place.KeyPlace.{KeyPlace}
use Rattle.ck_stripe.specs.declared.held_slot.HeldSlot.{HeldSlot}
use Rattle.ck_section.specs.Places.{IsSlotOf, IsNowhere, IsNext}
use Rattle.ck_stripe.specs.HeldSlots.{slot_in}

module _ {V : Type 0} where
  -- the slot has the name
  pub record IsOccupied (hash : Name → ℕ) (stripes : List (StripeState V)) (q : Name) (at : HeldSlot) : Type 0 where
    pub slot : IsSlotOf hash stripes q at
    pub found : (v : V) × (slot_in stripes at ≡ Some (q, v))

  -- The slot is the lowest free one of the first bucket, else of the alternate one, and neither bucket has the name.
  pub record IsVacant (hash : Name → ℕ) (stripes : List (StripeState V)) (q : Name) (place : KeyPlace) (at : HeldSlot) : Type 0 where
    pub slot : IsSlotOf hash stripes q at
    pub next : IsNext stripes place at
    pub nowhere : IsNowhere stripes q place

  -- the entry of the name, which may be at this place
  abbrev pub IsEntryOf : (Name → ℕ) → List (StripeState V) → Name → KeyPlace → Entry → Type 0
  IsEntryOf hash stripes q place (Occupied at) = IsOccupied hash stripes q at
  IsEntryOf hash stripes q place (Vacant at) = IsVacant hash stripes q place at
