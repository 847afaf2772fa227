-- Displacement paths over sketches of buckets.
use Rattle.std.specs.Prelude.{◌≡◌, ℕ, ◌≤◌, ◌⊎◌, Bool, true, false, IsTrue, List, [], ◌∷◌, length, Option, Some, None, slice_get}
use Rattle.ck_model.specs.declared.path_hop.PathHop.{PathHop}
use Rattle.ck_model.specs.Arithmetic.{alternate_of}

-- what a search sees of a bucket: the partial of each slot, or None where the slot is free
abbrev pub Sketch : Type 0
Sketch = List (Option ℕ)

-- whether a slot is free
abbrev pub has_free : Sketch → Bool
has_free [] = false
has_free (None ∷ s) = true
has_free (Some t ∷ s) = has_free s

-- From bucket b each hop takes an entry of a full bucket to its other bucket, and the last bucket has a free slot, where Shows says what a bucket may look like.
abbrev pub IsPathAlong : (ℕ → Sketch → Type 0) → ℕ → ℕ → List PathHop → ℕ → Type 0
IsPathAlong Shows p b [] end = (b ≡ end) × ((s : Sketch) × Shows b s × IsTrue (has_free s))
IsPathAlong Shows p b (h ∷ hops) end =
    (h.bucket ≡ b) × ((s : Sketch) × Shows b s × (has_free s ≡ false) × (slice_get s h.slot ≡ Some (Some h.partial)))
    × IsPathAlong Shows p (alternate_of p h.partial b) hops end

-- such a path where each bucket has one sketch
abbrev pub IsSketchPathFrom : ℕ → (ℕ → Sketch) → ℕ → List PathHop → ℕ → Type 0
IsSketchPathFrom p sketches b hops end = IsPathAlong (λ c s. sketches c ≡ s) p b hops end

-- a path from one of two buckets
abbrev pub IsSketchPath : ℕ → (ℕ → Sketch) → ℕ → ℕ → List PathHop → ℕ → Type 0
IsSketchPath p sketches first second hops end = IsSketchPathFrom p sketches first hops end ⊎ IsSketchPathFrom p sketches second hops end

-- there is no path of at most four hops
abbrev pub HasNoSketchPath : ℕ → (ℕ → Sketch) → ℕ → ℕ → Type 0
HasNoSketchPath p sketches first second = (hops : List PathHop) (end : ℕ) → length hops ≤ 4 → ¬ (IsSketchPath p sketches first second hops end)
