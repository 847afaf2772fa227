-- What rows of four slots keep of their places and heads.
use Rattle.std.specs.Prelude.{◌≡◌, ℕ, ◌*◌, ◌^◌, ◌<◌, ◌≤◌, List, [], ◌∷◌, Option, Some, None, is_some, false, length, map, replicate, slice_index_or, slice_set}
use Rattle.ck_model.specs.Promise.{Name}
use Rattle.ck_model.specs.Slots.{Slot}
use Rattle.ck_model.specs.Contents.{row_at}
use Rattle.ck_bucket.specs.declared.head.Head.{Head}
use Rattle.ck_bucket.specs.Bucket.{KeepsPartials}

-- four at a time
abbrev pub in_fours : {X : Type 0} → List X → List (List X)
in_fours (a ∷ b ∷ c ∷ d ∷ rest) = (a ∷ b ∷ c ∷ d ∷ []) ∷ in_fours rest
in_fours _ = []

-- the rows with slot i of row r set
abbrev pub with_slot_in : {V : Type 0} → List (List (Slot V)) → ℕ → ℕ → Slot V → List (List (Slot V))
with_slot_in rows r i slot = slice_set rows r (slice_set (row_at rows r) i slot)

-- the head of a row of free slots
abbrev pub no_entry : Head
no_entry = record { partials = replicate 4 0; taken = replicate 4 false }

-- the head says which slots of the row are taken, and of those the partials
pub record IsHeadOf {V : Type 0} (hash : Name → ℕ) (head : Head) (row : List (Slot V)) : Type 0 where
  pub wide : length head.partials ≡ 4
  pub flags : head.taken ≡ map is_some row
  pub partials : KeepsPartials hash head.partials row

-- beside each four slots stands their head
pub record KeepsHeads {V : Type 0} (hash : Name → ℕ) (heads : List (Option Head)) (slots : List (Slot V)) : Type 0 where
  pub four : length slots ≡ 4 * length heads
  pub few : length heads ≤ 2 ^ 26
  pub head : (r : ℕ) → r < length heads → (h : Head) × (slice_index_or heads r None ≡ Some h) × IsHeadOf hash h (row_at (in_fours slots) r)

-- so many heads and places, four for each, in which nothing was put yet
pub record AreBlank {X Y : Type 0} (heads : List (Option X)) (places : List (Option Y)) : Type 0 where
  pub few : length heads ≤ 2 ^ 26
  pub no_head : heads ≡ replicate (length heads) None
  pub no_pair : places ≡ replicate (length heads * 4) None
