-- The way from a node up to its root, as the hops down it.
use Rattle.std.specs.Prelude.{◌≡◌, ℕ, ◌<◌, List, [], ◌∷◌, Some, slice_get}
use Rattle.ck_model.specs.declared.path_hop.PathHop.{PathHop}
use Rattle.ck_path.specs.declared.node.Node.{Node}

-- a hop from the bucket of node n to that of a node c queued below it
pub record IsHop (nodes : List Node) (n : Node) (h : PathHop) (c : Node) : Type 0 where
  pub k : ℕ
  pub at : slice_get nodes k ≡ Some c
  pub low : 0 < c.depth
  pub up : slice_get nodes c.parent ≡ Some n
  pub bucket : h.bucket ≡ n.bucket
  pub slot : h.slot ≡ c.slot
  pub partial : h.partial ≡ c.partial

-- the hops lead from node n down to node last
abbrev pub LeadsDown : List Node → Node → List PathHop → Node → Type 0
LeadsDown nodes n [] last = n ≡ last
LeadsDown nodes n (h ∷ hops) last = (c : Node) × IsHop nodes n h c × LeadsDown nodes c hops last

-- the hops lead from a root down to node last
pub record IsTrace (nodes : List Node) (hops : List PathHop) (last : Node) : Type 0 where
  pub root : Node
  pub k : ℕ
  pub at : slice_get nodes k ≡ Some root
  pub top : root.depth ≡ 0
  pub leads : LeadsDown nodes root hops last
