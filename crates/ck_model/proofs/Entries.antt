-- Pairs in rising order of their keys are the entries of the map that they make.
use Rattle.std.proofs.Common.{◌≡◌, ℕ, zero, suc, ◌+◌, Bool, true, false, T, ◌&&◌, List, [], ◌∷◌, length, map, sym, refl, ap, ◌∙◌, subst, arith, Less, Equal, Greater, Ordering, is_lt}
use Rattle.std.specs.Prelude.{slice_index_or}
use Rattle.std.specs.List.{AllAdjacentBelow}
use Rattle.std.specs.Ordering.{nat_cmp, ordering_then}
use Rattle.std.specs.Cmp.Lexicographic.{nat_list_cmp_total}
use Rattle.std.specs.FinMap.{find, get, entries, entries_sorted, from_entries, get-from_entries, get-entries}
use Rattle.std.specs.FinMap.Entries.{below_all, is_sorted}
use Rattle.ck_model.specs.Promise.{Name, name_cmp, Map}
use Rattle.ck_model.specs.Listing.{named, ListsInOrder}
use Rattle.ck_model.proofs.Names.{maps_alike}
use Rattle.ck_model.proofs.Counted.{rising_entries}

both : (a b : Bool) → T a → T b → T (a && b)
both true b p q = q
both false b p q = absurd p

-- where two tests hold, each of them does
pub first : (a b : Bool) → T (a && b) → T a
first true b p = tt
first false b p = absurd p

pub second : (a b : Bool) → T (a && b) → T b
second true b p = p
second false b p = absurd p

-- an order that passes for less is less
pub is_less : (o : Ordering) → T (is_lt o) → o ≡ Less
is_less Less p = refl
is_less Equal p = absurd p
is_less Greater p = absurd p

less_is : (o : Ordering) → o ≡ Less → T (is_lt o)
less_is o e = subst (λ r. T (is_lt r)) (sym e) tt

-- names of one number are in the order of their numbers
pub alone : (a b : ℕ) → nat_cmp a b ≡ name_cmp (a ∷ []) (b ∷ [])
alone a b = by (nat_cmp a b)
  where
    by : (r : Ordering) → r ≡ ordering_then r Equal
    by Less = refl
    by Equal = refl
    by Greater = refl

module _ {X : Type 0} (R : X → X → Type 0) where
  adjacent_rest : (x : X) (xs : List X) → AllAdjacentBelow R (x ∷ xs) (length (x ∷ xs)) → AllAdjacentBelow R xs (length xs)
  adjacent_rest x xs h k d l =
      let e : suc k + 1 ≡ suc (k + 1) = omega arith in
      subst (λ n. R (slice_index_or xs k d) (slice_index_or (x ∷ xs) n d)) e (h (suc k) d (omega arith))

  adjacent_more : (x y : X) (xs : List X) → R x y → AllAdjacentBelow R (y ∷ xs) (length (y ∷ xs)) → AllAdjacentBelow R (x ∷ y ∷ xs) (length (x ∷ y ∷ xs))
  adjacent_more x y xs r h zero d l = r
  adjacent_more x y xs r h (suc k) d l =
      let e : suc (k + 1) ≡ suc k + 1 = omega arith in
      subst (λ n. R (slice_index_or (y ∷ xs) k d) (slice_index_or (x ∷ y ∷ xs) n d)) e (h k d (omega arith))

module _ {V : Type 0} where
  below_more : (p q : Name) (es : List (Name × V)) → name_cmp p q ≡ Less → T (below_all name_cmp q es) → T (below_all name_cmp p es)
  below_more p q [] l b = tt
  below_more p q (e ∷ es) l b =
      let next : name_cmp q e.0 ≡ Less = is_less (name_cmp q e.0) (first (is_lt (name_cmp q e.0)) (below_all name_cmp q es) b) in
      both (is_lt (name_cmp p e.0)) (below_all name_cmp p es) (less_is (name_cmp p e.0) (nat_list_cmp_total.trans p q e.0 l next))
      (below_more p q es l (second (is_lt (name_cmp q e.0)) (below_all name_cmp q es) b))

-- keys in the order of their names
module _ {K V : Type 0} (name : K → Name) (cmp : K → K → Ordering) (by_name : (a b : K) → cmp a b ≡ name_cmp (name a) (name b)) where
  abbrev Rise : K × V → K × V → Type 0
  Rise a b = cmp a.0 b.0 ≡ Less

  sorted_by_name : (pairs : List (K × V)) → AllAdjacentBelow Rise pairs (length pairs) → T (is_sorted name_cmp (map (named name) pairs))
  sorted_by_name [] r = tt
  sorted_by_name (x ∷ []) r = tt
  sorted_by_name (x ∷ y ∷ es) r =
      let more : List (Name × V) = map (named name) es in
      let less : name_cmp (name x.0) (name y.0) ≡ Less = sym (by_name x.0 y.0) ∙ r 0 x (omega arith) in
      let rest : T (is_sorted name_cmp (named name y ∷ more)) = sorted_by_name (y ∷ es) (adjacent_rest Rise x (y ∷ es) r) in
      both (below_all name_cmp (name x.0) (named name y ∷ more)) (is_sorted name_cmp (named name y ∷ more))
      (both (is_lt (name_cmp (name x.0) (name y.0))) (below_all name_cmp (name x.0) more) (less_is (name_cmp (name x.0) (name y.0)) less)
      (below_more (name x.0) (name y.0) more less (first (below_all name_cmp (name y.0) more) (is_sorted name_cmp more) rest)))
      rest

  rising_by_key : (pairs : List (K × V)) → T (is_sorted name_cmp (map (named name) pairs)) → AllAdjacentBelow Rise pairs (length pairs)
  rising_by_key [] s k d l = absurd (omega arith)
  rising_by_key (x ∷ []) s k d l = absurd (omega arith)
  rising_by_key (x ∷ y ∷ es) s k d l =
      let more : List (Name × V) = map (named name) es in
      let below = first (below_all name_cmp (name x.0) (named name y ∷ more)) (is_sorted name_cmp (named name y ∷ more)) s in
      let less = is_less (name_cmp (name x.0) (name y.0)) (first (is_lt (name_cmp (name x.0) (name y.0))) (below_all name_cmp (name x.0) more) below) in
      adjacent_more Rise x y es (by_name x.0 y.0 ∙ less) (rising_by_key (y ∷ es) (second (below_all name_cmp (name x.0) (named name y ∷ more)) (is_sorted name_cmp (named name y ∷ more)) s)) k d l

  -- what lists a map in order are its entries
  pub entries_listed : (pairs : List (K × V)) (m : Map V) → ListsInOrder name cmp pairs m → map (named name) pairs ≡ entries m
  entries_listed pairs m l = sym (rising_entries m (map (named name) pairs) (sorted_by_name pairs l.rising)
      (λ q. sym (get-from_entries nat_list_cmp_total (map (named name) pairs) q) ∙ ap (λ (x : Map V). get x q) l.same))

  -- the entries of a map list it in order
  pub listed_entries : (pairs : List (K × V)) (m : Map V) → map (named name) pairs ≡ entries m → ListsInOrder name cmp pairs m
  listed_entries pairs m e = record {
    rising = rising_by_key pairs (subst (λ (es : List (Name × V)). T (is_sorted name_cmp es)) (sym e) (entries_sorted m));
    same = maps_alike (from_entries (map (named name) pairs)) m (λ q. get-from_entries nat_list_cmp_total (map (named name) pairs) q
        ∙ (ap (λ (es : List (Name × V)). find name_cmp q es) e ∙ sym (get-entries m q)));
  }

-- the same of numbers, each of which is its name
pub entries_of_numbers : {V : Type 0} (pairs : List (ℕ × V)) (m : Map V) → ListsInOrder (λ n. n ∷ []) nat_cmp pairs m → map (named (λ n. n ∷ [])) pairs ≡ entries m
entries_of_numbers pairs m l = entries_listed (λ n. n ∷ []) nat_cmp alone pairs m l
