-- What a path shows of a bucket that has one sketch holds of that sketch.
use Rattle.std.proofs.Common.{◌≡◌, ℕ, false, Option, Some, ◌∙◌, ap}
use Rattle.std.specs.Prelude.{slice_get, IsTrue}
use Rattle.ck_model.specs.Sketches.{Sketch, has_free}

-- it has a free slot
pub free_of : (k : Sketch) → (s : Sketch) × (k ≡ s) × IsTrue (has_free s) → IsTrue (has_free k)
free_of k seen = ap has_free seen.1 ∙ seen.2

-- it is full, and has the entry of the hop
pub full_of : (k : Sketch) (slot : ℕ) (entry : Option ℕ) → (s : Sketch) × (k ≡ s) × (has_free s ≡ false) × (slice_get s slot ≡ Some entry)
    → (has_free k ≡ false) × (slice_get k slot ≡ Some entry)
full_of k slot entry seen = (ap has_free seen.1 ∙ seen.2, ap (λ s. slice_get s slot) seen.1 ∙ seen.3)
