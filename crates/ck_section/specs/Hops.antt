-- One hop of a displacement over held stripes.
use Rattle.std.specs.Prelude.{◌≡◌, ℕ, ◌+◌, ◌-◌, ◌%◌, ◌^◌, ◌<◌, true, List, Some, None, length}
use Rattle.ck_model.specs.Arithmetic.{partial_of, alternate_of}
use Rattle.ck_model.specs.Promise.{Name}
use Rattle.ck_model.specs.Slots.{Slot, HasFree}
use Rattle.ck_model.specs.Contents.{layout, Lawful}
use Rattle.ck_model.specs.Sections.{IdentitySection}
use Rattle.ck_stripe.specs.Stripe.{StripeState}
use Rattle.ck_section.specs.declared.hop.Hop.{Hop}
use Rattle.ck_stripe.specs.declared.held_slot.HeldSlot.{HeldSlot}
use Rattle.ck_stripe.specs.Stripes.{stripe_at, bucket_at, contents_of}
use Rattle.ck_stripe.specs.HeldSlots.{slot_in, set_slot, IsLowest}

-- the slot that the hop empties, in stripe i
abbrev pub source_in : ℕ → Hop → HeldSlot
source_in i hop = record { index = i; bucket = hop.bucket; slot = hop.slot }

module _ {V : Type 0} where
  -- Stripes i and j are settled and of one power, of one table, and have the two buckets of the hop at its power.
  pub record IsHopIn (stripes : List (StripeState V)) (i j : ℕ) (hop : Hop) : Type 0 where
    pub first : i < length stripes
    pub second : j < length stripes
    pub first_settled : (stripe_at stripes i).settled ≡ true
    pub second_settled : (stripe_at stripes j).settled ≡ true
    pub one_s : (stripe_at stripes j).s ≡ (stripe_at stripes i).s
    pub one_power : (stripe_at stripes j).content.power ≡ (stripe_at stripes i).content.power
    pub below : hop.bucket < 2 ^ hop.power
    pub target : hop.target ≡ alternate_of hop.power hop.partial hop.bucket
    pub first_own : hop.bucket % 2 ^ (stripe_at stripes i).s ≡ (stripe_at stripes i).number
    pub second_own : hop.target % 2 ^ (stripe_at stripes j).s ≡ (stripe_at stripes j).number

  -- the slot has an entry of this partial
  pub record HasPartial (hash : Name → ℕ) (slot : Slot V) (partial : ℕ) : Type 0 where
    pub name : Name
    pub value : V
    pub entry : slot ≡ Some (name, value)
    pub partial_is : partial_of (hash name) ≡ partial

  -- The power is the hop's, an entry of its partial is in its slot, and its target has a free slot.
  pub record CanHop (hash : Name → ℕ) (stripes : List (StripeState V)) (i j : ℕ) (hop : Hop) : Type 0 where
    pub power : (stripe_at stripes i).content.power ≡ hop.power
    pub entry : HasPartial hash (slot_in stripes (source_in i hop)) hop.partial
    pub free : HasFree (bucket_at stripes j hop.target)

  -- what is left without the entry
  abbrev pub lifted : List (StripeState V) → ℕ → Hop → List (StripeState V)
  lifted stripes i hop = set_slot stripes (source_in i hop) None ((stripe_at stripes i).content.ledger - 1)

  -- The entry is in the lowest slot of the target that was free.
  pub record Hops (old : List (StripeState V)) (i j : ℕ) (hop : Hop) (new : List (StripeState V)) : Type 0 where
    pub name : Name
    pub value : V
    pub to : HeldSlot
    pub index : to.index ≡ j
    pub bucket : to.bucket ≡ hop.target
    pub entry : slot_in old (source_in i hop) ≡ Some (name, value)
    pub free : slot_in old to ≡ None
    pub lowest : IsLowest old to
    pub moved : new ≡ set_slot (lifted old i hop) to (Some (name, value)) ((stripe_at (lifted old i hop) j).content.ledger + 1)

  -- Whatever the greatest power is, lawful stripes of a table of 2^s go from old to new by no call.
  abbrev pub IsNoCall : (Name → ℕ) → ℕ → List (StripeState V) → List (StripeState V) → Type 0
  IsNoCall hash s old new = (max : ℕ) → Lawful (layout hash s max) (contents_of old) → IdentitySection (layout hash s max) (contents_of old) (contents_of new)
