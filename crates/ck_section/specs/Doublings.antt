-- What a doubling of all stripes of a table leaves.
use Rattle.std.specs.Prelude.{◌≡◌, ℕ, ◌+◌, ◌<◌, List, length}
use Rattle.ck_model.specs.Promise.{Name}
use Rattle.ck_model.specs.Contents.{layout, Lawful}
use Rattle.ck_model.specs.Sections.{IdentitySection}
use Rattle.ck_model.specs.Doubling.{IsDoubledTo}
use Rattle.ck_stripe.specs.Stripe.{StripeState, IsReserved, reserved}
use Rattle.ck_stripe.specs.Stripes.{stripe_at, contents_of, doubled}

module _ {V : Type 0} where
  -- there is memory for a doubling of each
  abbrev pub AreReserved : List (StripeState V) → Type 0
  AreReserved stripes = (i : ℕ) → i < length stripes → IsReserved (stripe_at stripes i)

  -- Each stripe is at the next power and not yet settled, with memory for so many rows.
  pub record DoublesEach (hash : Name → ℕ) (old new : List (StripeState V)) : Type 0 where
    pub count : length new ≡ length old
    pub each : (i : ℕ) → i < length old → stripe_at new i ≡ doubled hash (reserved (stripe_at old i))
    pub power : (i : ℕ) → i < length old → (stripe_at new i).content.power ≡ (stripe_at old i).content.power + 1

  -- Whatever greatest power above theirs there is, lawful stripes of a table of 2^s have doubled once, by no call.
  pub record Grows (hash : Name → ℕ) (s : ℕ) (old new : List (StripeState V)) : Type 0 where
    pub doubled : (max : ℕ) → (stripe_at old 0).content.power < max → Lawful (layout hash s max) (contents_of old)
        → IsDoubledTo (layout hash s max) ((stripe_at old 0).content.power + 1) (contents_of old) (contents_of new)
    pub no_call : (max : ℕ) → (stripe_at old 0).content.power < max → Lawful (layout hash s max) (contents_of old)
        → IdentitySection (layout hash s max) (contents_of old) (contents_of new)
