-- What a found path is, in sketches that were seen and in those of one table.
use Rattle.std.specs.Prelude.{◌≡◌, ◌≢◌, ℕ, ◌^◌, ◌<◌, ◌≤◌, ◌⊎◌, Bool, IsTrue, List, [], ◌∷◌, length}
use Rattle.ck_model.specs.declared.path_hop.PathHop.{PathHop}
use Rattle.ck_model.specs.Arithmetic.{alternate_of}
use Rattle.ck_model.specs.Sketches.{Sketch, IsPathAlong, IsSketchPath}

-- the power that was searched, the hops from the key's bucket on, and the bucket at their end
pub record Route : Type 0 where
  pub power : ℕ
  pub hops : List PathHop
  pub end : ℕ

-- the bucket at which hops begin
abbrev pub first_bucket : List PathHop → ℕ → ℕ
first_bucket [] end = end
first_bucket (h ∷ hops) end = h.bucket

-- each hop leads from a bucket of the table to the other bucket of its entry, where the next one begins
abbrev pub AreLinked : ℕ → List PathHop → ℕ → Type 0
AreLinked p [] end = end < 2 ^ p
AreLinked p (h ∷ hops) end =
    (h.bucket < 2 ^ p) × (h.slot < 4) × (alternate_of p h.partial h.bucket ≡ first_bucket hops end) × AreLinked p hops end

-- what holds of a path whatever the search was fed
pub record IsLinked (route : Route) : Type 0 where
  pub power : route.power ≤ 26
  pub at_most_four : length route.hops ≤ 4
  pub linked : AreLinked route.power route.hops route.end

-- a path from one of the two buckets of a key in sketches that were seen
abbrev pub IsSeen : (ℕ → Sketch → Bool) → ℕ → ℕ → ℕ → Route → Type 0
IsSeen seen p first second route =
    IsPathAlong (λ b s. IsTrue (seen b s)) p first route.hops route.end ⊎ IsPathAlong (λ b s. IsTrue (seen b s)) p second route.hops route.end

-- a bucket is none of those of the hops and their end
abbrev pub Avoids : ℕ → List PathHop → ℕ → Type 0
Avoids b [] end = b ≢ end
Avoids b (h ∷ hops) end = (b ≢ h.bucket) × Avoids b hops end

-- no bucket is visited twice
abbrev pub VisitsOnce : List PathHop → ℕ → Type 0
VisitsOnce [] end = Unit {0}
VisitsOnce (h ∷ hops) end = Avoids h.bucket hops end × VisitsOnce hops end

-- a path of at most four hops than which none is shorter
pub record IsShortestPath (p : ℕ) (sketches : ℕ → Sketch) (first second : ℕ) (route : Route) : Type 0 where
  pub power : route.power ≡ p
  pub path : IsSketchPath p sketches first second route.hops route.end
  pub at_most_four : length route.hops ≤ 4
  pub once : VisitsOnce route.hops route.end
  pub shortest : (hops : List PathHop) (end : ℕ) → IsSketchPath p sketches first second hops end → length route.hops ≤ length hops
