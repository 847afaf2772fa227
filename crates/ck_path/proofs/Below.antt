-- The nodes that a taken node queues.
use Rattle.std.proofs.Common.{◌≡◌, ℕ, zero, suc, ◌+◌, ◌≤◌, ◌⊎◌, Bool, true, false, List, [], ◌∷◌, ◌++◌, length, eqb, cond, Option, Some, None, refl, sym, ap, subst, inl, inr, arith, length-append}
use Rattle.std.specs.Prelude.{slice_get}
use Rattle.std.proofs.lemmas.Bool.Decides.{eqb_tells}
use Rattle.std.proofs.lemmas.Option.{none-some, same_Some}
use Rattle.ck_model.specs.Arithmetic.{alternate_of}
use Rattle.ck_path.specs.declared.node.Node.{Node}
use Rattle.ck_model.specs.Sketches.{Sketch}
use Rattle.ck_path.specs.Queue.{other_node, child, children}
use Rattle.ck_path.proofs.Lists.{get_cases, get_left, get_right}

-- a node queued below node k for an entry of a sketch whose first slot is `from`
pub record IsChild (p k : ℕ) (n : Node) (from : ℕ) (s : Sketch) (c : Node) : Type 0 where
  pub parent : c.parent ≡ k
  pub depth : c.depth ≡ n.depth + 1
  pub bucket : c.bucket ≡ alternate_of p c.partial n.bucket
  pub i : ℕ
  pub slot : c.slot ≡ from + i
  pub entry : slice_get s i ≡ Some (Some c.partial)

-- the other bucket of an entry is among the nodes
pub record HasOther (p : ℕ) (n : Node) (t : ℕ) (cs : List Node) : Type 0 where
  pub k : ℕ
  pub node : Node
  pub at : slice_get cs k ≡ Some node
  pub bucket : node.bucket ≡ alternate_of p t n.bucket
  pub depth : node.depth ≡ n.depth + 1

cond_short : {X : Type 0} (b : Bool) (x : X) → length (cond b [] (x ∷ [])) ≤ 1
cond_short true x = omega arith
cond_short false x = omega arith

cond_at : {X : Type 0} (b : Bool) (x y : X) (i : ℕ) → slice_get (cond b [] (x ∷ [])) i ≡ Some y → x ≡ y
cond_at true x y i e = absurd (none-some y e)
cond_at false x y zero e = same_Some x y e
cond_at false x y (suc i) e = absurd (none-some y e)

child_short : (p k : ℕ) (n : Node) (slot : ℕ) (e : Option ℕ) → length (child p k n slot e) ≤ 1
child_short p k n slot None = omega arith
child_short p k n slot (Some t) = cond_short (eqb (alternate_of p t n.bucket) n.bucket) (other_node p k n slot t)

pub children_short : (p k : ℕ) (n : Node) (slot : ℕ) (s : Sketch) → length (children p k n slot s) ≤ length s
children_short p k n slot [] = omega arith
children_short p k n slot (e ∷ s) =
    omega (arith, length-append (child p k n slot e) (children p k n (suc slot) s), child_short p k n slot e, children_short p k n (suc slot) s)

child_sound : (p k : ℕ) (n : Node) (slot : ℕ) (e : Option ℕ) (s : Sketch) (i : ℕ) (c : Node)
    → slice_get (child p k n slot e) i ≡ Some c → IsChild p k n slot (e ∷ s) c
child_sound p k n slot None s i c at = absurd (none-some c at)
child_sound p k n slot (Some t) s i c at =
    let is : other_node p k n slot t ≡ c = cond_at (eqb (alternate_of p t n.bucket) n.bucket) (other_node p k n slot t) c i at in
    subst (IsChild p k n slot (Some t ∷ s)) is
    (record { parent = refl; depth = refl; bucket = refl; i = 0; slot = omega arith; entry = refl })

pub children_sound : (p k : ℕ) (n : Node) (slot : ℕ) (s : Sketch) (i : ℕ) (c : Node)
    → slice_get (children p k n slot s) i ≡ Some c → IsChild p k n slot s c
children_sound p k n slot [] i c at = absurd (none-some c at)
children_sound p k n slot (e ∷ s) i c at =
    elim (get_cases (child p k n slot e) (children p k n (suc slot) s) i c at) [
      | inl f ↦ child_sound p k n slot e s i c f
      | inr a ↦
          let is : IsChild p k n (suc slot) s c = children_sound p k n (suc slot) s a.i c a.at in
          record { parent = is.parent; depth = is.depth; bucket = is.bucket; i = suc is.i; slot = omega arith; entry = is.entry }
    ]

has_left : (p : ℕ) (n : Node) (t : ℕ) (cs ds : List Node) → HasOther p n t cs → HasOther p n t (cs ++ ds)
has_left p n t cs ds h = record { k = h.k; node = h.node; at = get_left cs ds h.k h.node h.at; bucket = h.bucket; depth = h.depth }

pub has_right : (p : ℕ) (n : Node) (t : ℕ) (cs ds : List Node) → HasOther p n t ds → HasOther p n t (cs ++ ds)
has_right p n t cs ds h =
    let r : (k : ℕ) × (slice_get (cs ++ ds) k ≡ Some h.node) = get_right cs ds h.k h.node h.at in
    record { k = r.0; node = h.node; at = r.1; bucket = h.bucket; depth = h.depth }

child_complete : (p k : ℕ) (n : Node) (slot t : ℕ) → (alternate_of p t n.bucket ≡ n.bucket) ⊎ HasOther p n t (child p k n slot (Some t))
child_complete p k n slot t =
    elim (eqb_tells (alternate_of p t n.bucket) n.bucket) [
      | inl y ↦ inl y.1
      | inr z ↦ inr (record {
        k = 0;
        node = other_node p k n slot t;
        at = ap (λ b. slice_get (cond b [] (other_node p k n slot t ∷ [])) 0) z.0;
        bucket = refl;
        depth = refl;
      })
    ]

pub children_complete : (p k : ℕ) (n : Node) (from : ℕ) (s : Sketch) (slot t : ℕ)
    → slice_get s slot ≡ Some (Some t) → (alternate_of p t n.bucket ≡ n.bucket) ⊎ HasOther p n t (children p k n from s)
children_complete p k n from [] slot t e = absurd (none-some (Some t) e)
children_complete p k n from (None ∷ s) zero t e = cc
children_complete p k n from (Some u ∷ s) zero t e =
    let is : u ≡ t = cc in
    subst (λ v. (alternate_of p t n.bucket ≡ n.bucket) ⊎ HasOther p n t (child p k n from (Some v) ++ children p k n (suc from) s)) (sym is)
    (elim (child_complete p k n from t) [ inl same ↦ inl same | inr h ↦ inr (has_left p n t _ (children p k n (suc from) s) h) ])
children_complete p k n from (e' ∷ s) (suc slot) t e =
    elim (children_complete p k n (suc from) s slot t e) [
      | inl same ↦ inl same
      | inr h ↦ inr (has_right p n t (child p k n from e') _ h)
    ]
