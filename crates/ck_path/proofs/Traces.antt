-- The way from a node up to its root.
use Rattle.std.proofs.Common.{◌≡◌, ℕ, ◌+◌, ◌<◌, List, [], ◌∷◌, length, get_or, Some, sym, ◌∙◌, ap}
use Rattle.std.specs.Prelude.{slice_get}
use Rattle.std.proofs.lemmas.Option.{slice_get_within, slice_get-get_or, get_or_from_slice_get}
use Rattle.ck_model.specs.declared.path_hop.PathHop.{PathHop}
use Rattle.ck_path.specs.declared.node.Node.{Node}
use Rattle.ck_model.specs.Arithmetic.{alternate_of}
use Rattle.ck_path.specs.Route.{first_bucket, AreLinked}
use Rattle.ck_path.specs.Queue.{IsBelow, IsSoundNode, AreSound}
use Rattle.ck_path.specs.Trace.{IsHop, LeadsDown}
use Rattle.ck_path.proofs.Lists.{same_get}

-- the parent of a node of the queue, as it is read at an index, at any default
pub record IsRead (nodes : List Node) (n : Node) (at : ℕ) (blank : Node) : Type 0 where
  pub within : at < length nodes
  pub up : slice_get nodes at ≡ Some (get_or nodes at blank)
  pub depth : n.depth ≡ (get_or nodes at blank).depth + 1

pub parent_read : (p : ℕ) (nodes : List Node) → AreSound p nodes → (n : Node) → (k : ℕ) × (slice_get nodes k ≡ Some n) → 0 < n.depth
    → (at : ℕ) → at ≡ n.parent → (blank : Node) → IsRead nodes n at blank
parent_read p nodes sound n place low at is blank =
    let w : (m : Node) × IsBelow p nodes place.0 n m = (sound place.0 n place.1).below low in
    let up : slice_get nodes at ≡ Some w.0 = ap (λ x. slice_get nodes x) is ∙ w.1.at in
    let within : at < length nodes = slice_get_within nodes at w.0 up in
    let same : get_or nodes at blank ≡ w.0 = get_or_from_slice_get nodes at w.0 blank up in
    record {
      within = within;
      up = slice_get-get_or nodes at blank within;
      depth = w.1.depth ∙ ap (λ (x : Node). x.depth + 1) (sym same);
    }

-- one hop more, from the parent down
pub leads_up : (nodes : List Node) (n m last : Node) (h : PathHop) (hops : List PathHop) → (k : ℕ) × (slice_get nodes k ≡ Some n) → 0 < n.depth
    → slice_get nodes n.parent ≡ Some m → h.bucket ≡ m.bucket → h.slot ≡ n.slot → h.partial ≡ n.partial
    → LeadsDown nodes n hops last → LeadsDown nodes m (h ∷ hops) last
leads_up nodes n m last h hops place low up bucket slot partial leads =
    (n, record { k = place.0; at = place.1; low = low; up = up; bucket = bucket; slot = slot; partial = partial }, leads)

-- the way down is linked
pub leads_linked : (p : ℕ) (nodes : List Node) (last : Node) → AreSound p nodes → (hops : List PathHop) (n : Node)
    → (k : ℕ) × (slice_get nodes k ≡ Some n) → LeadsDown nodes n hops last → AreLinked p hops last.bucket × (first_bucket hops last.bucket ≡ n.bucket)
leads_linked p nodes last sound [] n place leads =
    let bucket : n.bucket ≡ last.bucket = ap (λ (x : Node). x.bucket) leads in
    (rw (← bucket) (sound place.0 n place.1).bucket, sym bucket)
leads_linked p nodes last sound (h ∷ hops) n place leads =
    let c : Node = leads.0 in
    let hop : IsHop nodes n h c = leads.1 in
    let child : IsSoundNode p nodes hop.k c = sound hop.k c hop.at in
    let w : (m : Node) × IsBelow p nodes hop.k c m = child.below hop.low in
    let is : w.0 ≡ n = same_get nodes c.parent w.0 n w.1.at hop.up in
    let rest : AreLinked p hops last.bucket × (first_bucket hops last.bucket ≡ c.bucket) =
    leads_linked p nodes last sound hops c (hop.k, hop.at) leads.2 in
    let bucket : h.bucket ≡ n.bucket = hop.bucket in
    let there : alternate_of p h.partial h.bucket ≡ c.bucket = cc (w.1.bucket, hop.partial, hop.bucket, ap (λ (x : Node). x.bucket) is) in
    ((rw bucket (sound place.0 n place.1).bucket, rw hop.slot child.slot, there ∙ sym rest.1, rest.0), bucket)
