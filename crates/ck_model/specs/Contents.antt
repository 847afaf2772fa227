-- What stripes contain, which plain map that is, and which contents are lawful.
use Rattle.std.specs.Prelude.{◌≡◌, ◌⊎◌, ℕ, ◌+◌, ◌*◌, ◌-◌, ◌/◌, ◌%◌, ◌^◌, ◌<◌, ◌≤◌, ◌==◌, if◌then◌else◌, List, [], ◌∷◌, Some, None, length, replicate, slice_index_or, flat_map, All}
use Rattle.std.specs.FinMap.{find, from_entries}
use Rattle.ck_model.specs.declared.contents.Content.{Content}
use Rattle.ck_model.specs.declared.settings.Settings.{Settings}
use Rattle.ck_model.specs.Arithmetic.{index_of, second_of}
use Rattle.ck_model.specs.Promise.{Name, name_cmp, Map}
use Rattle.ck_model.specs.Numbered.{AreDistinct, numbers, Holds, listed}
use Rattle.ck_model.specs.Slots.{Slot, slot_at, taken_in}

-- what the meaning of contents depends on: the hash of names, the 2^s stripes, and the greatest power
pub record Layout : Type 0 where
  pub hash : Name → ℕ
  pub s : ℕ
  pub max : ℕ

abbrev pub layout : (Name → ℕ) → ℕ → ℕ → Layout
layout hash s max = record { hash = hash; s = s; max = max }

-- that of a table with these settings
abbrev pub layout_of : (Name → ℕ) → Settings → Layout
layout_of hash set = layout hash set.s set.max

-- stripes by their numbers
abbrev pub Stripes : Type 0 → Type 0
Stripes V = List (ℕ × Content V)

-- row r, which is empty past the end
abbrev pub row_at : {V : Type 0} → List (List (Slot V)) → ℕ → List (Slot V)
row_at rows r = slice_index_or rows r []

-- the bucket is one of the name's two
abbrev pub IsBucketOf : (Name → ℕ) → ℕ → Name → ℕ → Type 0
IsBucketOf hash p q b = (b ≡ index_of p (hash q)) ⊎ (b ≡ second_of p (hash q))

-- the stripe is one of the name's two
abbrev pub IsStripeOf : Layout → Name → ℕ → Type 0
IsStripeOf k q t = (t ≡ index_of k.s (k.hash q)) ⊎ (t ≡ second_of k.s (k.hash q))

-- one of 2^s stripes of a table of this power, whose slots are free
abbrev pub empty_content : {V : Type 0} → ℕ → ℕ → Content V
empty_content s power = record { power = power; rows = replicate (2 ^ (power - s)) (replicate 4 None); ledger = 0 }

module _ {V : Type 0} where
  -- the pairs in the slots of a stripe
  abbrev pub pairs_in : Content V → List (Name × V)
  pairs_in c = flat_map taken_in c.rows

  -- the pairs in all slots
  abbrev pub pairs_of : Stripes V → List (Name × V)
  pairs_of hs = flat_map (λ (h : ℕ × Content V). pairs_in h.1) hs

  -- the plain map of all pairs
  unfoldable pub bindings : Stripes V → Map V
  bindings hs = from_entries (pairs_of hs)

  -- the stripe has the name, with this value
  abbrev pub Binds : Content V → Name → V → Type 0
  Binds c q v = find name_cmp q (pairs_in c) ≡ Some v

  -- no name stands in two pairs
  abbrev pub NamesApart : List (Name × V) → Type 0
  NamesApart [] = Unit {0}
  NamesApart (e ∷ es) = (find name_cmp e.0 es ≡ None) × NamesApart es

  -- What one of 2^s stripes contains: 2^(power - s) buckets of four slots, and a ledger that is the number of its entries.
  pub record IsShaped (s : ℕ) (c : Content V) : Type 0 where
    pub least : s ≤ c.power
    pub rows : length c.rows ≡ 2 ^ (c.power - s)
    pub four : All (λ (row : List (Slot V)). length row ≡ 4) c.rows
    pub ledger : c.ledger ≡ length (pairs_in c)

  -- The stripe t by itself: of the right shape, each entry in a bucket of its name, and no name in two slots.
  pub record IsSound (k : Layout) (t : ℕ) (c : Content V) : Type 0 where
    pub number : t < 2 ^ k.s
    pub most : c.power ≤ k.max
    pub shaped : IsShaped k.s c
    pub placed : (r i : ℕ) (q : Name) (v : V) → slot_at (row_at c.rows r) i ≡ Some (q, v) → IsBucketOf k.hash c.power q (r * 2 ^ k.s + t)
    pub apart : NamesApart (pairs_in c)

  -- Different stripes, each sound, no name in two of them, and all of one power.
  pub record Lawful (k : Layout) (hs : Stripes V) : Type 0 where
    pub distinct : AreDistinct (numbers hs)
    pub sound : (t : ℕ) (c : Content V) → Holds hs t c → IsSound k t c
    pub once : (t u : ℕ) (c d : Content V) (q : Name) (v w : V) → Holds hs t c → Holds hs u d → Binds c q v → Binds d q w → t ≡ u
    pub one_power : (t u : ℕ) (c d : Content V) → Holds hs t c → Holds hs u d → c.power ≡ d.power

  -- all stripes, of which number t contains w t
  abbrev pub whole : Layout → (ℕ → Content V) → Stripes V
  whole k w = listed (2 ^ k.s) w

  -- the power, which is that of each stripe
  abbrev pub power_of : Stripes V → ℕ
  power_of [] = 0
  power_of (h ∷ hs) = h.1.power

  -- the rows of stripe t
  abbrev pub rows_of : Stripes V → ℕ → List (List (Slot V))
  rows_of [] t = []
  rows_of (h ∷ hs) t = if h.0 == t then h.1.rows else rows_of hs t

  -- the slots of bucket b
  abbrev pub bucket_in : Layout → Stripes V → ℕ → List (Slot V)
  bucket_in k hs b = row_at (rows_of hs (b % 2 ^ k.s)) (b / 2 ^ k.s)
