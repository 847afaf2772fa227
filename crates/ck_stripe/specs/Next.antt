-- What a stripe has for its next doubling, or from its last one.
use Rattle.std.specs.Prelude.{◌≡◌, ℕ, Bool, true, false, if◌then◌else◌, ◌+◌, ◌-◌, ◌*◌, ◌^◌, Option, Some, None, length, replicate}
use Rattle.ck_stripe.specs.declared.next.Next.{Next}
use Rattle.ck_stripe.specs.declared.next.Next.TheVariants.{Absent, Reserved, Doubled, Emptied}

module _ {K V : Type 0} where
  -- whether no doubling is left to be carried out
  abbrev pub is_settled : Next K V → Bool
  is_settled Absent = true
  is_settled (Reserved blank) = true
  is_settled (Doubled blank) = false
  is_settled (Emptied rows) = true

  -- whether it has rows that a doubling has emptied
  abbrev pub is_emptied : Next K V → Bool
  is_emptied Absent = false
  is_emptied (Reserved blank) = false
  is_emptied (Doubled blank) = false
  is_emptied (Emptied rows) = true

  -- the same once these are freed
  abbrev pub without_emptied : Next K V → Next K V
  without_emptied Absent = Absent
  without_emptied (Reserved blank) = Reserved blank
  without_emptied (Doubled blank) = Doubled blank
  without_emptied (Emptied rows) = Absent

  -- how many rows one of 2^s stripes of a table of 2^power buckets stores: until a doubled one is settled, those of the power below
  abbrev pub count_of : ℕ → ℕ → Next K V → ℕ
  count_of s power next = if is_settled next then 2 ^ (power - s) else 2 ^ (power - 1 - s)

  -- for how many rows it has memory in all, without emptied ones: twice as many as it stores where there is memory for a doubling
  abbrev pub room_of : ℕ → ℕ → Next K V → ℕ
  room_of s power Absent = 2 ^ (power - s)
  room_of s power (Reserved blank) = 2 ^ (power + 1 - s)
  room_of s power (Doubled blank) = 2 ^ (power - s)
  room_of s power (Emptied rows) = 2 ^ (power - s)

  -- for how many rows it has memory to double in
  abbrev pub blank_of : Next K V → Option ℕ
  blank_of Absent = None
  blank_of (Reserved blank) = Some blank
  blank_of (Doubled blank) = Some blank
  blank_of (Emptied rows) = None

  -- It is for a stripe of n rows: memory for twice as many, or half as many free ones.
  abbrev pub IsFor : ℕ → Next K V → Type 0
  IsFor n Absent = Unit {0}
  IsFor n (Reserved blank) = blank ≡ 2 * n
  IsFor n (Doubled blank) = blank ≡ 2 * n
  IsFor n (Emptied rows) = (n ≡ 2 * length rows) × (rows ≡ replicate (length rows) (replicate 4 None))
