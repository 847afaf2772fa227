-- What is stored of a stripe, and what contracts see of it.
use Rattle.std.specs.Prelude.{◌≡◌, ℕ, false, if◌then◌else◌, ◌-◌, ◌^◌, ◌<◌, ◌≤◌, List, length, All}
use Rattle.ck_model.specs.Promise.{Name}
use Rattle.ck_model.specs.Slots.{Slot}
use Rattle.ck_stripe.specs.Doubling.{split_rows}
use Rattle.ck_stripe.specs.Stripe.{StripeState, content_of}
use Rattle.ck_stripe.specs.Next.{is_settled, count_of, room_of, IsFor}
use Rattle.ck_stripe.specs.declared.stripe.Stripe.TheInside.{Inside}

module _ {K V : Type 0} where
  -- The rows that are shown. Between a doubling and the split the rows of the power below are stored, and the split ones are shown.
  abbrev pub shown_rows : (Name → ℕ) → Inside K V → List (List (Slot V))
  shown_rows hash t = if is_settled t.next then t.rows else split_rows hash t.s t.number (t.power - 1) t.rows

  -- what is shown of the fields, where the ledger is the number of entries
  abbrev pub shown : (Name → ℕ) → Inside K V → StripeState V
  shown hash t = record { number = t.number; s = t.s; content = content_of t.power (shown_rows hash t); settled = is_settled t.next; room = room_of t.s t.power t.next }

  -- One of at most 2^10 stripes, of at most 2^26 buckets in all. It has as many rows of four slots as its power wants, and before the split those of the power below.
  pub record IsConsistent (t : Inside K V) : Type 0 where
    pub many : t.s ≤ 10
    pub number : t.number < 2 ^ t.s
    pub least : t.s ≤ t.power
    pub late : is_settled t.next ≡ false → t.s < t.power
    pub most : t.power ≤ 26
    pub count : length t.rows ≡ count_of t.s t.power t.next
    pub four : All (λ (row : List (Slot V)). length row ≡ 4) t.rows
    pub next : IsFor (length t.rows) t.next
