-- What a search that has found no path yet knows of the sketches that it was fed. A caller carries these facts from `start` to `feed` and `next_bucket`, and needs nothing of what they say.
use Rattle.std.specs.Prelude.{◌≡◌, ℕ, ◌+◌, ◌<◌, ◌≤◌, ◌⊎◌, Bool, false, IsTrue, List, Some, slice_get}
use Rattle.ck_model.specs.Arithmetic.{alternate_of}
use Rattle.ck_model.specs.Sketches.{Sketch, has_free}
use Rattle.ck_path.specs.declared.node.Node.{Node}
use Rattle.ck_path.specs.Queue.{Queue}

-- a node for the bucket at a depth or above it
pub record Covers (nodes : List Node) (b d : ℕ) : Type 0 where
  pub k : ℕ
  pub node : Node
  pub at : slice_get nodes k ≡ Some node
  pub bucket : node.bucket ≡ b
  pub depth : node.depth ≤ d

-- a search from two buckets at power p that was fed sketches of which Seen holds, and has found no path
pub record IsSearchSeeing (Seen : ℕ → Sketch → Type 0) (p first second : ℕ) (q : Queue) : Type 0 where
  pub power : q.power ≡ p
  pub roots : (k : ℕ) (n : Node) → slice_get q.nodes k ≡ Some n → n.depth ≡ 0 → (n.bucket ≡ first) ⊎ (n.bucket ≡ second)
  -- each node above depth 0 was seen in the bucket above it
  pub seen : (k : ℕ) (n m : Node) → slice_get q.nodes k ≡ Some n → 0 < n.depth → slice_get q.nodes n.parent ≡ Some m
      → (s : Sketch) × Seen m.bucket s × (has_free s ≡ false) × (slice_get s n.slot ≡ Some (Some n.partial))

-- the same by a test that each bucket with its sketch passes
abbrev pub IsSearchFed : (ℕ → Sketch → Bool) → ℕ → ℕ → ℕ → Queue → Type 0
IsSearchFed seen p first second q = IsSearchSeeing (λ b s. IsTrue (seen b s)) p first second q

-- a search from two buckets at power p that was fed these sketches, and has found no path
pub record IsSearchOver (p : ℕ) (sketches : ℕ → Sketch) (first second : ℕ) (q : Queue) : Type 0 where
  pub sees : IsSearchSeeing (λ b s. sketches b ≡ s) p first second q
  pub first_root : Covers q.nodes first 0
  pub second_root : Covers q.nodes second 0
  -- the buckets that were taken are full
  pub full : (k : ℕ) (n : Node) → k < q.taken → slice_get q.nodes k ≡ Some n → has_free (sketches n.bucket) ≡ false
  -- and the other buckets of their entries were queued
  pub followed : (k : ℕ) (n : Node) (slot t : ℕ) → k < q.taken → slice_get q.nodes k ≡ Some n → n.depth < 4
      → slice_get (sketches n.bucket) slot ≡ Some (Some t) → Covers q.nodes (alternate_of p t n.bucket) (n.depth + 1)
