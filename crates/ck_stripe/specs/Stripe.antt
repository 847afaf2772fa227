-- What contracts see of a stripe.
use Rattle.std.specs.Prelude.{◌≡◌, ℕ, Bool, ◌+◌, ◌-◌, ◌/◌, ◌%◌, ◌^◌, ◌<◌, ◌≤◌, List, length, flat_map, slice_set}
use Rattle.ck_model.specs.Slots.{Slot, taken_in}
use Rattle.ck_model.specs.declared.contents.Content.{Content}
use Rattle.ck_model.specs.Contents.{row_at, IsShaped}

-- A stripe: its number among 2^s, its content, whether its entries stand in the rows where the content shows them, and for how many rows it has memory.
pub record StripeState (V : Type 0) : Type 0 where
  pub number : ℕ
  pub s : ℕ
  pub content : Content V
  pub settled : Bool
  pub room : ℕ

-- one of at most 2^10 stripes, of at most 2^26 buckets in all, and of the right shape
pub record IsWellFormed {V : Type 0} (stripe : StripeState V) : Type 0 where
  pub many : stripe.s ≤ 10
  pub number : stripe.number < 2 ^ stripe.s
  pub most : stripe.content.power ≤ 26
  pub shaped : IsShaped stripe.s stripe.content

module _ {V : Type 0} where
  -- the bucket is one of the stripe's
  abbrev pub HasBucket : StripeState V → ℕ → Type 0
  HasBucket stripe b = (b < 2 ^ stripe.content.power) × (b % 2 ^ stripe.s ≡ stripe.number)

  -- the slots of bucket b
  abbrev pub bucket_of : StripeState V → ℕ → List (Slot V)
  bucket_of stripe b = row_at stripe.content.rows (b / 2 ^ stripe.s)

  -- the content with these slots as bucket b, and with this ledger
  abbrev pub with_bucket : StripeState V → ℕ → List (Slot V) → ℕ → Content V
  with_bucket stripe b slots ledger = record { power = stripe.content.power; rows = slice_set stripe.content.rows (b / 2 ^ stripe.s) slots; ledger = ledger }

  -- the content with this in slot i of bucket b, and with this ledger
  abbrev pub with_slot : StripeState V → ℕ → ℕ → Slot V → ℕ → Content V
  with_slot stripe b i slot ledger = with_bucket stripe b (slice_set (bucket_of stripe b) i slot) ledger

  -- it has memory for its rows, and for none besides
  abbrev pub HasNoSpare : StripeState V → Type 0
  HasNoSpare stripe = stripe.room ≡ 2 ^ (stripe.content.power - stripe.s)

  -- it has memory for twice as many rows, which a doubling wants
  abbrev pub IsReserved : StripeState V → Type 0
  IsReserved stripe = stripe.room ≡ 2 ^ (stripe.content.power + 1 - stripe.s)

  -- the stripe with so much memory
  abbrev pub shrunk : StripeState V → StripeState V
  shrunk stripe = record stripe { room = 2 ^ (stripe.content.power - stripe.s) }

  abbrev pub reserved : StripeState V → StripeState V
  reserved stripe = record stripe { room = 2 ^ (stripe.content.power + 1 - stripe.s) }

  -- these rows at this power, and the number of their entries
  abbrev pub content_of : ℕ → List (List (Slot V)) → Content V
  content_of power rows = record { power = power; rows = rows; ledger = length (flat_map taken_in rows) }
