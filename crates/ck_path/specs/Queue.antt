-- The queue of a breadth-first search, and what holds of it whatever the search is fed. A caller needs `wanted` and `steps_left` alone.
use Rattle.std.specs.Prelude.{◌≡◌, ℕ, zero, suc, ◌+◌, ◌*◌, ◌-◌, ◌^◌, ◌<◌, ◌≤◌, List, [], ◌∷◌, ◌++◌, length, eqb, cond, Option, Some, None, slice_get, option_map}
use Rattle.ck_model.specs.Arithmetic.{alternate_of}
use Rattle.ck_model.specs.Sketches.{Sketch}
use Rattle.ck_path.specs.declared.node.Node.{Node}

-- the nodes in the order in which they were queued, and how many were taken
pub record Queue : Type 0 where
  pub power : ℕ
  pub nodes : List Node
  pub taken : ℕ

-- the bucket whose sketch is wanted, or None where the search is over
abbrev pub wanted : Queue → Option ℕ
wanted q = option_map (λ n. n.bucket) (slice_get q.nodes q.taken)

-- at least as many as the sketches that are still wanted
abbrev pub steps_left : Queue → ℕ
steps_left q = 682 - q.taken

-- the node for the other bucket of an entry in the bucket of node k
abbrev pub other_node : ℕ → ℕ → Node → ℕ → ℕ → Node
other_node p k n slot t =
    record { bucket = alternate_of p t n.bucket; parent = k; slot = slot; partial = t; depth = n.depth + 1 }

-- the node that an entry queues, unless its other bucket is the same
abbrev pub child : ℕ → ℕ → Node → ℕ → Option ℕ → List Node
child p k n slot None = []
child p k n slot (Some t) = cond (eqb (alternate_of p t n.bucket) n.bucket) [] (other_node p k n slot t ∷ [])

-- the nodes that a sketch queues below node k, from a slot on
abbrev pub children : ℕ → ℕ → Node → ℕ → Sketch → List Node
children p k n slot [] = []
children p k n slot (e ∷ s) = child p k n slot e ++ children p k n (suc slot) s

-- the node for a bucket of the key
abbrev pub root_node : ℕ → Node
root_node b = record { bucket = b; parent = 0; slot = 0; partial = 0; depth = 0 }

-- how many nodes there are at most down to a depth: 2, 10, 42, 170, 682
abbrev pub room_of : ℕ → ℕ
room_of zero = 2
room_of (suc d) = 2 + 4 * room_of d

-- node n, at place k, was queued below an earlier one
pub record IsBelow (p : ℕ) (nodes : List Node) (k : ℕ) (n : Node) (m : Node) : Type 0 where
  pub at : slice_get nodes n.parent ≡ Some m
  pub earlier : n.parent < k
  pub depth : n.depth ≡ m.depth + 1
  pub bucket : n.bucket ≡ alternate_of p n.partial m.bucket

pub record IsSoundNode (p : ℕ) (nodes : List Node) (k : ℕ) (n : Node) : Type 0 where
  pub depth : n.depth ≤ 4
  pub bucket : n.bucket < 2 ^ p
  pub slot : n.slot < 4
  pub room : k < room_of n.depth
  pub below : 0 < n.depth → (m : Node) × IsBelow p nodes k n m

abbrev pub AreSound : ℕ → List Node → Type 0
AreSound p nodes = (k : ℕ) (n : Node) → slice_get nodes k ≡ Some n → IsSoundNode p nodes k n

-- what holds of a search whatever it was fed
pub record IsSoundQueue (q : Queue) : Type 0 where
  pub power : q.power ≤ 26
  pub taken : q.taken ≤ length q.nodes
  pub size : length q.nodes ≤ 2 + 4 * q.taken
  pub each : AreSound q.power q.nodes
  pub sorted : (j k : ℕ) (m n : Node) → j ≤ k → slice_get q.nodes j ≡ Some m → slice_get q.nodes k ≡ Some n → m.depth ≤ n.depth
  pub near : (k : ℕ) (m n : Node) → slice_get q.nodes q.taken ≡ Some m → slice_get q.nodes k ≡ Some n → n.depth ≤ m.depth + 1
