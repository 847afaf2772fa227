-- What an iterator over a stripe has left.
use Rattle.std.specs.Prelude.{◌≡◌, ℕ, ◌*◌, ◌^◌, ◌≤◌, List, length, drop, flat_map, All}
use Rattle.ck_model.specs.Promise.{Name}
use Rattle.ck_model.specs.Slots.{Slot, taken_in}

module _ {V : Type 0} where
  -- the slots of all rows, one row after the other
  abbrev pub slots_of : List (List (Slot V)) → List (Slot V)
  slots_of rows = flat_map (λ (row : List (Slot V)). row) rows

  -- the pairs in the slots from the n-th on
  abbrev pub pairs_from : ℕ → List (List (Slot V)) → List (Name × V)
  pairs_from n rows = taken_in (drop n (slots_of rows))

  -- there are so many slots, four in each row
  pub record HasSlots (rows : List (List (Slot V))) (count : ℕ) : Type 0 where
    pub four : All (λ (row : List (Slot V)). length row ≡ 4) rows
    pub counted : count ≡ 4 * length rows
    pub few : length rows ≤ 2 ^ 26
