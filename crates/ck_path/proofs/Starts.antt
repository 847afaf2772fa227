-- A search as it starts.
use Rattle.std.proofs.Common.{◌≡◌, ℕ, zero, suc, ◌⊎◌, List, [], ◌∷◌, Some, refl, sym, ap, inl, inr, arith}
use Rattle.std.specs.Prelude.{slice_get}
use Rattle.std.proofs.lemmas.Option.{none-some, same_Some}
use Rattle.ck_path.specs.declared.node.Node.{Node}
use Rattle.ck_model.specs.Sketches.{Sketch}
use Rattle.ck_path.specs.Queue.{root_node}
use Rattle.ck_path.specs.Progress.{Covers, IsSearchSeeing, IsSearchOver}

-- each node is one of the two roots
abbrev pub AreRoots : ℕ → ℕ → List Node → Type 0
AreRoots b1 b2 nodes = (k : ℕ) (n : Node) → slice_get nodes k ≡ Some n → (n.depth ≡ 0) × ((n.bucket ≡ b1) ⊎ (n.bucket ≡ b2))

pub one_root : (b1 b2 : ℕ) → AreRoots b1 b2 (root_node b1 ∷ [])
one_root b1 b2 zero n e =
    let is : root_node b1 ≡ n = same_Some (root_node b1) n e in
    (sym (ap (λ (x : Node). x.depth) is), inl (sym (ap (λ (x : Node). x.bucket) is)))
one_root b1 b2 (suc k) n e = absurd (none-some n e)

pub two_roots : (b1 b2 : ℕ) → AreRoots b1 b2 (root_node b1 ∷ root_node b2 ∷ [])
two_roots b1 b2 zero n e =
    let is : root_node b1 ≡ n = same_Some (root_node b1) n e in
    (sym (ap (λ (x : Node). x.depth) is), inl (sym (ap (λ (x : Node). x.bucket) is)))
two_roots b1 b2 (suc zero) n e =
    let is : root_node b2 ≡ n = same_Some (root_node b2) n e in
    (sym (ap (λ (x : Node). x.depth) is), inr (sym (ap (λ (x : Node). x.bucket) is)))
two_roots b1 b2 (suc (suc k)) n e = absurd (none-some n e)

pub root_covers : (nodes : List Node) (k b : ℕ) → slice_get nodes k ≡ Some (root_node b) → Covers nodes b 0
root_covers nodes k b at = record { k = k; node = root_node b; at = at; bucket = refl; depth = omega arith }

pub start_sees : (Seen : ℕ → Sketch → Type 0) (p b1 b2 : ℕ) (nodes : List Node) → AreRoots b1 b2 nodes
    → IsSearchSeeing Seen p b1 b2 (record { power = p; nodes = nodes; taken = 0 })
start_sees Seen p b1 b2 nodes roots = record {
  power = refl;
  roots = λ k n at top. (roots k n at).1;
  seen = λ k n m at low up. absurd (omega (arith, (roots k n at).0));
}

pub start_over : (p b1 b2 : ℕ) (sketches : ℕ → Sketch) (nodes : List Node) → AreRoots b1 b2 nodes → Covers nodes b1 0 → Covers nodes b2 0
    → IsSearchOver p sketches b1 b2 (record { power = p; nodes = nodes; taken = 0 })
start_over p b1 b2 sketches nodes roots first second = record {
  sees = start_sees (λ b s. sketches b ≡ s) p b1 b2 nodes roots;
  first_root = first;
  second_root = second;
  full = λ k n below at. absurd (omega arith);
  followed = λ k n slot t below at above entry. absurd (omega arith);
}
