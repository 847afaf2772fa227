-- Names, their order, and maps by them.
use Rattle.std.proofs.Common.{◌≡◌, ◌≢◌, ◌⊎◌, inl, inr, ⊎_elim, true, false, refl, sym, ap, ◌∙◌, subst, List, [], ◌∷◌, Less, Equal, Greater, Ordering, is_eq}
use mathlib.Core.Logic.{dite}
use mathlib.Core.List.{List-discrete}
use native.Mathlib.Decide.{ℕ_discrete}
use Rattle.std.specs.Ordering.{eq_by_cmp}
use Rattle.std.specs.Cmp.{tied_itself}
use Rattle.std.specs.Cmp.Lexicographic.{nat_list_cmp_total}
use Rattle.std.specs.FinMap.{IsAntisymmetric, get, same_map, slice_cmp-IsAntisymmetric, nat_cmp-IsAntisymmetric}
use Rattle.ck_model.specs.Promise.{Name, name_cmp, Map, bound_in}
use Rattle.ck_model.specs.Numbered.{IsIn}

pub dec_name : (p q : Name) → Dec (p ≡ q)
dec_name = List-discrete ℕ_discrete

pub name_cmp-antisymmetric : IsAntisymmetric name_cmp
name_cmp-antisymmetric = slice_cmp-IsAntisymmetric nat_cmp-IsAntisymmetric

-- maps that have the same of each name are one
pub maps_alike : {V : Type 0} (m n : Map V) → ((q : Name) → get m q ≡ get n q) → m ≡ n
maps_alike m n e = same_map nat_list_cmp_total name_cmp-antisymmetric m n e

-- the test of two names says whether they are one
pub is_name : (p q : Name) → p ≡ q → eq_by_cmp name_cmp p q ≡ true
is_name p q e = ap is_eq (ap (name_cmp p) (sym e) ∙ tied_itself nat_list_cmp_total p)

pub no_name : (p q : Name) → p ≢ q → eq_by_cmp name_cmp p q ≡ false
no_name p q ne = by (name_cmp p q) refl
  where
    by : (r : Ordering) → name_cmp p q ≡ r → is_eq r ≡ false
    by Less e = refl
    by Equal e = absurd (ne (name_cmp-antisymmetric p q e))
    by Greater e = refl

pub same_name : (p q : Name) → eq_by_cmp name_cmp p q ≡ true → p ≡ q
same_name p q = by (name_cmp p q) refl
  where
    by : (r : Ordering) → name_cmp p q ≡ r → is_eq r ≡ true → p ≡ q
    by Less e f = cc
    by Equal e f = name_cmp-antisymmetric p q e
    by Greater e f = cc

pub cases_name : (p q : Name) → ((eq_by_cmp name_cmp p q ≡ true) × (p ≡ q)) ⊎ ((eq_by_cmp name_cmp p q ≡ false) × (p ≢ q))
cases_name p q = dite (dec_name p q) (λ e. inl (is_name p q e, e)) (λ ne. inr (no_name p q ne, ne))

pub dec_among : (q : Name) (qs : List Name) → Dec (IsIn q qs)
dec_among q [] = no (λ h. h)
dec_among q (x ∷ xs) = dite (dec_name x q) (λ e. yes (inl e)) (λ n. dite (dec_among q xs) (λ h. yes (inr h)) (λ m. no (λ h. ⊎_elim n m h)))

module _ {V : Type 0} (m n : Map V) where
  -- two maps have the same of each of these names
  pub bound_alike : (qs : List Name) → ((q : Name) → IsIn q qs → get m q ≡ get n q) → bound_in m qs ≡ bound_in n qs
  bound_alike [] same = refl
  bound_alike (x ∷ xs) same = λ i. same x (inl refl) i ∷ bound_alike xs (λ q h. same q (inr h)) i

  pub alike_among : (qs : List Name) → bound_in m qs ≡ bound_in n qs → (q : Name) → IsIn q qs → get m q ≡ get n q
  alike_among [] e q h = absurd h
  alike_among (x ∷ xs) e q h =
      let both = parts (get m x) (get n x) (bound_in m xs) (bound_in n xs) e in
      ⊎_elim (λ (f : x ≡ q). subst (λ (z : Name). get m z ≡ get n z) f both.0) (λ i. alike_among xs both.1 q i) h
    where
      parts : {A : Type 0} (a b : A) (xs ys : List A) → a ∷ xs ≡ b ∷ ys → (a ≡ b) × (xs ≡ ys)
      parts a b xs ys f = (cc, cc)
