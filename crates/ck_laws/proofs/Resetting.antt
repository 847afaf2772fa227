-- A table that was locked, cleared and filled with two has these when it is unlocked.
use Rattle.std.proofs.Common.{◌≡◌, ℕ, refl, ap, ◌∙◌, subst, Option, Result, Ok, Err, IfOk, IsOk, OnErr, Bool, true, false}
use Rattle.std.specs.Bool.{OnTrue}
use Rattle.std.specs.FinMap.{insert, empty}
use Rattle.ck_model.specs.Promise.{Name, Client, After}
use Rattle.cuckoo_map.specs.Acts.{Assigns}
use Rattle.cuckoo_map.specs.Locking.{LockedState, map_of, EndsSession, HasLocked, Clears, HasActed, IsSameSession}
use Rattle.ck_laws.proofs.Acting.{assigning}
use Rattle.ck_laws.proofs.Sessions.{session_leaves, session_began}

-- an assignment in a locked table
pub assigned_in : {E : Type 0} (q : Name) (v : ℕ) (l m : LockedState ℕ) (r : Result (Option ℕ) E) → IsOk r → IfOk r (Assigns v (HasActed q l m)) → IsSameSession l m × (map_of m ≡ insert (map_of l) q v)
assigned_in q v l m (Ok o) ok a = (a.session, (assigning (map_of l) (map_of m) q v o a.step).1)
assigned_in q v l m (Err e) ok a = absurd (true_is ok)
  where
    true_is : false ≡ true → ⊥
    true_is h = cc

pub reset_leaves : (w : _) (p : _) (l0 l1 l2 l3 : LockedState ℕ) (d : Client ℕ) (q r : Name) (v u : ℕ) → HasLocked w p l0 → Clears l0 l1
    → IsSameSession l1 l2 × (map_of l2 ≡ insert (map_of l1) q v) → IsSameSession l2 l3 × (map_of l3 ≡ insert (map_of l2) r u)
    → EndsSession l3 d → After d.seen (insert (insert empty q v) r u)
reset_leaves w p l0 l1 l2 l3 d q r v u locked cleared one two ends =
    let began = session_began l2 l3 two.0 (session_began l1 l2 one.0 (session_began l0 l1 cleared.session locked.after)) in
    let is : map_of l3 ≡ insert (insert empty q v) r u = two.1 ∙ ap (λ x. insert x r u) (one.1 ∙ ap (λ x. insert x q v) cleared.none) in
    subst (λ x. After d.seen x) is (session_leaves l3 d began ends)

pub on_err : {A E : Type 0} (r : Result A E) {P : Type 0} → P → OnErr r P
on_err (Ok a) p = tt
on_err (Err e) p = p

pub on_true : (b : Bool) {P : Type 0} → (b ≡ true → P) → OnTrue b P
on_true true p = p refl
on_true false p = tt

pub no_true : (a b : Bool) → a ≡ b → b ≡ false → a ≡ true → ⊥
no_true a b e f g = cc
