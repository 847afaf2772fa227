-- The slots of a bucket.
use Rattle.std.specs.Prelude.{◌≡◌, ℕ, ◌<◌, List, Option, None, IsSome, slice_index_or, filter_map}
use Rattle.ck_model.specs.Promise.{Name}

-- one slot: free, or a name and its value
abbrev pub Slot : Type 0 → Type 0
Slot V = Option (Name × V)

-- slot i, which is free past the end
abbrev pub slot_at : {V : Type 0} → List (Slot V) → ℕ → Slot V
slot_at slots i = slice_index_or slots i None

-- what is in the slots, in their order
abbrev pub taken_in : {X : Type 0} → List (Option X) → List X
taken_in {X} slots = filter_map (λ (s : Option X). s) slots

-- each of the four slots has an entry
abbrev pub IsFull : {V : Type 0} → List (Slot V) → Type 0
IsFull slots = (i : ℕ) → i < 4 → IsSome (slot_at slots i)

-- one of the four slots is free
abbrev pub HasFree : {V : Type 0} → List (Slot V) → Type 0
HasFree slots = (i : ℕ) × (i < 4) × (slot_at slots i ≡ None)
