-- What a bucket's calls find and change in its slots.
use Rattle.std.specs.Prelude.{◌≡◌, ◌≢◌, ℕ, Bool, not, if◌then◌else◌, List, Option, Some, None, length, map, slice_index, option_map, slice_set}
use Rattle.ck_model.specs.Arithmetic.{partial_of}
use Rattle.ck_model.specs.Promise.{Name}
use Rattle.ck_model.specs.Listing.{named}
use Rattle.ck_model.specs.Slots.{Slot, slot_at}
use Rattle.ck_key.specs.Doubling.{rises_of}

-- what is seen of the slots: names in place of keys
abbrev pub seen_slots : {K V : Type 0} → (K → Name) → List (Option (K × V)) → List (Slot V)
seen_slots name slots = map (option_map (named name)) slots

-- four slots, and beside each name its partial
pub record KeepsPartials {V : Type 0} (hash : Name → ℕ) (partials : List ℕ) (slots : List (Slot V)) : Type 0 where
  pub four : length slots ≡ 4
  pub partial : (i : ℕ) (name : Name) (v : V) → slot_at slots i ≡ Some (name, v) → slice_index partials i ≡ partial_of (hash name)

-- slot i has the name
abbrev pub HasName : {V : Type 0} → List (Slot V) → Name → ℕ → Type 0
HasName {V} slots name i = (v : V) × (slot_at slots i ≡ Some (name, v))

-- no slot has the name
abbrev pub LacksName : {V : Type 0} → List (Slot V) → Name → Type 0
LacksName {V} slots name = (i : ℕ) (v : V) → slot_at slots i ≢ Some (name, v)

-- slot i keeps its name and has the value in place of the old one
pub record ReplacesValue {V : Type 0} (before after : List (Slot V)) (i : ℕ) (value old : V) : Type 0 where
  pub name : Name
  pub was : slot_at before i ≡ Some (name, old)
  pub is : after ≡ slice_set before i (Some (name, value))

-- slot i keeps its name, and its value becomes one that stands so to the old one
abbrev pub ChangesValue : {V : Type 0} → (V → V → Type 0) → List (Slot V) → List (Slot V) → ℕ → Type 0
ChangesValue {V} becomes before after i = (old value : V) × becomes old value × ReplacesValue before after i value old

-- the entry of a slot, where its name passes the test
abbrev pub kept_if : {V : Type 0} → (Name → Bool) → Slot V → Slot V
kept_if t None = None
kept_if t (Some e) = if t e.0 then Some e else None

-- what stays in a slot of bucket b where a table of 2^p buckets doubles
abbrev pub staying : {V : Type 0} → (Name → ℕ) → ℕ → ℕ → Slot V → Slot V
staying hash p b slot = kept_if (λ (q : Name). not (rises_of p b (hash q))) slot

-- what leaves the slot
abbrev pub rising : {V : Type 0} → (Name → ℕ) → ℕ → ℕ → Slot V → Slot V
rising hash p b slot = kept_if (λ (q : Name). rises_of p b (hash q)) slot

-- bucket b after the doubling: each entry that stays has kept its slot
abbrev pub low_row : {V : Type 0} → (Name → ℕ) → ℕ → ℕ → List (Slot V) → List (Slot V)
low_row hash p b slots = map (staying hash p b) slots

-- the bucket 2^p above b after the doubling: each entry that comes from b has kept its slot
abbrev pub high_row : {V : Type 0} → (Name → ℕ) → ℕ → ℕ → List (Slot V) → List (Slot V)
high_row hash p b slots = map (rising hash p b) slots

-- a clone is equal to what it was made of
abbrev pub ClonesAreEqual : {A : Type 0} → (A → A → Type 0) → Type 0
ClonesAreEqual {A} is_clone = (x y : A) → is_clone x y → y ≡ x
