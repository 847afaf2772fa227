-- What an act on one stripe leaves of the stripes that a seat holds.
use Rattle.std.specs.Prelude.{◌≡◌, ℕ, ◌+◌, ◌<◌, ◌∷◌, Some, length, map, slice_set}
use Rattle.atomic_table.specs.Table.{rest}
use Rattle.atomic_table.specs.Seated.{TableId}
use Rattle.atomic_table.specs.declared.shared.Seat.{Seat}
use Rattle.ck_stripe.specs.Stripe.{StripeState}
use Rattle.ck_core.specs.declared.view.View.{View}
use Rattle.ck_stripe.specs.Stripes.{stripe_at}
use Rattle.ck_words.specs.Rule.{StripeSlot}
use Rattle.ck_words.specs.Passes.{EachOf, rotated, slot_of, stripes_in, held_in, numbers_of}

-- a seat of a table of stripes
abbrev pub StripeSeat : Type 0 → Type 0
StripeSeat V = Seat (StripeSlot V) (View V)

module _ {V : Type 0} where
  -- The seat of this table holds n stripes, each in the slot of its number. Stripe i of them is stripe t.
  pub record HoldsAt (table : TableId) (n i t : ℕ) (seat : StripeSeat V) : Type 0 where
    pub own : seat.table_id ≡ table
    pub full : seat.me.1 ≡ map slot_of (stripes_in seat.me.1)
    pub count : length (held_in seat.me.1) ≡ n
    pub inside : i < n
    pub number : (stripe_at (held_in seat.me.1) i).number ≡ t

  -- Stripe i became this one. The others, the numbers and what the seat knows are as before.
  pub record Puts (i : ℕ) (stripe : StripeState V) (old new : StripeSeat V) : Type 0 where
    pub stripes : held_in new.me.1 ≡ slice_set (held_in old.me.1) i stripe
    pub full : new.me.1 ≡ map slot_of (stripes_in new.me.1)
    pub numbered : numbers_of (stripes_in new.me.1) ≡ numbers_of (stripes_in old.me.1)
    pub each_of : (s : ℕ) → EachOf s (stripes_in old.me.1) → EachOf s (stripes_in new.me.1)
    pub table : new.table_id ≡ old.table_id
    pub view : new.me.0 ≡ old.me.0

  -- Stripe t, which is stripe i, came first. When the seat is turned on, with another stripe of that number there, only that one has changed.
  pub record Brings (i t : ℕ) (old new : StripeSeat V) : Type 0 where
    pub table : new.table_id ≡ old.table_id
    pub front : new.me.1 ≡ (t, Some (stripe_at (held_in old.me.1) i)) ∷ rest new.me.1
    pub back : (stripe : StripeState V) (after : StripeSeat V) → stripe.number ≡ (stripe_at (held_in old.me.1) i).number → stripe.s ≡ (stripe_at (held_in old.me.1) i).s
        → after.table_id ≡ new.table_id → after.me ≡ (new.me.0, rotated (i + 1) ((t, Some stripe) ∷ rest new.me.1)) → Puts i stripe old after
