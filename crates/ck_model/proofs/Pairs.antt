-- Pairs of different names: how often a name stands in them, and their map in any order.
use Rattle.std.proofs.Common.{◌≡◌, ◌⊎◌, inl, inr, ℕ, ◌+◌, ◌<◌, ◌≤◌, zero, suc, length, List, [], ◌∷◌, Some, None, refl, sym, ◌∙◌, ap, subst, Bool, true, false, cond, arith, slice_index_or}
use Rattle.std.specs.Prelude.{count_by}
use Rattle.std.specs.Ordering.{eq_by_cmp}
use Rattle.std.specs.List.{Contains}
use Rattle.std.specs.List.Sorted.{IsPermutation}
use Rattle.std.specs.Cmp.Lexicographic.{nat_list_cmp_total}
use Rattle.std.specs.FinMap.{find, from_entries, get-from_entries}
use Rattle.std.proofs.lemmas.List.Sums.{sum_by-cons}
use Rattle.std.proofs.lemmas.List.Sorted.{sum_by-IsPermutation, Contains-permutation, IsPermutation-sym}
use Rattle.std.proofs.lemmas.Option.{none-some, same_Some}
use Rattle.std.proofs.lemmas.Bool.{false≢true}
use Rattle.ck_model.specs.Promise.{Name, name_cmp}
use Rattle.ck_model.specs.Contents.{NamesApart}
use Rattle.ck_model.proofs.Numbered.{same_option}
use Rattle.ck_model.proofs.Names.{maps_alike, is_name, same_name, cases_name}

abbrev one : Bool → ℕ
one b = cond b 1 0

module _ {V : Type 0} where
  -- how many of the pairs have the name
  abbrev pub times : Name → List (Name × V) → ℕ
  times q es = count_by (λ (e : Name × V). eq_by_cmp name_cmp q e.0) es

  pub times-cons : (q : Name) (e : Name × V) (es : List (Name × V)) → times q (e ∷ es) ≡ one (eq_by_cmp name_cmp q e.0) + times q es
  times-cons q e es = sum_by-cons (λ (x : Name × V). one (eq_by_cmp name_cmp q x.0)) e es

  times-permuted : (es fs : List (Name × V)) → IsPermutation es fs → (q : Name) → times q fs ≡ times q es
  times-permuted es fs moved q = sum_by-IsPermutation (λ (e : Name × V). one (eq_by_cmp name_cmp q e.0)) es fs moved

  -- a name that is not found stands nowhere
  pub times-none : (q : Name) (es : List (Name × V)) → find name_cmp q es ≡ None → times q es ≡ 0
  times-none q [] n = refl
  times-none q (e ∷ es) n = times-cons q e es ∙ go (eq_by_cmp name_cmp q e.0) n (times-none q es)
    where
      go : (b : Bool) → cond b (Some e.1) (find name_cmp q es) ≡ None → (find name_cmp q es ≡ None → times q es ≡ 0) → one b + times q es ≡ 0
      go true n again = absurd (none-some _ (sym n))
      go false n again = let rest = again n in omega arith

  pub none_from_times : (q : Name) (es : List (Name × V)) → times q es ≡ 0 → find name_cmp q es ≡ None
  none_from_times q [] n = refl
  none_from_times q (e ∷ es) n = go (eq_by_cmp name_cmp q e.0) (sym (times-cons q e es) ∙ n) (none_from_times q es)
    where
      go : (b : Bool) → one b + times q es ≡ 0 → (times q es ≡ 0 → find name_cmp q es ≡ None) → cond b (Some e.1) (find name_cmp q es) ≡ None
      go true n again = absurd (omega arith)
      go false n again = again (omega arith)

  -- where names are apart, each stands at most once
  pub once_from_apart : (es : List (Name × V)) → NamesApart es → (q : Name) → times q es ≤ 1
  once_from_apart [] a q = omega arith
  once_from_apart (e ∷ es) a q = go (once_from_apart es a.1 q) (cases_name q e.0)
    where
      count : times q (e ∷ es) ≡ one (eq_by_cmp name_cmp q e.0) + times q es
      count = times-cons q e es

      go : times q es ≤ 1 → ((eq_by_cmp name_cmp q e.0 ≡ true) × (q ≡ e.0)) ⊎ ((eq_by_cmp name_cmp q e.0 ≡ false) × (q ≡ e.0 → ⊥)) → times q (e ∷ es) ≤ 1
      go rest (inl s) =
          let t : one (eq_by_cmp name_cmp q e.0) ≡ 1 = ap one s.0 in
          let n : times q es ≡ 0 = times-none q es (ap (λ (x : Name). find name_cmp x es) s.1 ∙ a.0) in
          omega (arith, count, t, n)
      go rest (inr s) = let t : one (eq_by_cmp name_cmp q e.0) ≡ 0 = ap one s.0 in omega (arith, count, t, rest)

  -- where each name stands at most once, they are apart
  pub apart_from_once : (es : List (Name × V)) → ((q : Name) → times q es ≤ 1) → NamesApart es
  apart_from_once [] once = tt
  apart_from_once (e ∷ es) once = (none_from_times e.0 es none, apart_from_once es rest)
    where
      none : times e.0 es ≡ 0
      none =
          let count : times e.0 (e ∷ es) ≡ one (eq_by_cmp name_cmp e.0 e.0) + times e.0 es = times-cons e.0 e es in
          let t : one (eq_by_cmp name_cmp e.0 e.0) ≡ 1 = ap one (is_name e.0 e.0 refl) in
          let h = once e.0 in
          omega (arith, count, t, h)

      rest : (q : Name) → times q es ≤ 1
      rest q =
          let count : times q (e ∷ es) ≡ one (eq_by_cmp name_cmp q e.0) + times q es = times-cons q e es in
          let h = once q in
          omega (arith, count, h)

  -- names are apart in any order
  pub apart-permuted : (es fs : List (Name × V)) → IsPermutation es fs → NamesApart es → NamesApart fs
  apart-permuted es fs moved a = apart_from_once fs (λ q. subst (λ n. n ≤ 1) (sym (times-permuted es fs moved q)) (once_from_apart es a q))

  -- what is found stands among the pairs
  pub found_pair : (q : Name) (es : List (Name × V)) (v : V) → find name_cmp q es ≡ Some v → Contains es (q, v)
  found_pair q [] v e = absurd (none-some _ e)
  found_pair q (x ∷ es) v e = go (eq_by_cmp name_cmp q x.0) refl e (found_pair q es v)
    where
      go : (b : Bool) → eq_by_cmp name_cmp q x.0 ≡ b → cond b (Some x.1) (find name_cmp q es) ≡ Some v → (find name_cmp q es ≡ Some v → Contains es (q, v)) → Contains (x ∷ es) (q, v)
      go true s h again = (0, omega arith, ap (λ (n : Name). (n, x.1)) (sym (same_name q x.0 s)) ∙ ap (λ w. (q, w)) (same_Some _ _ h))
      go false s h again = let rest = again h in (suc rest.0, omega (arith, rest.1), rest.2)

  -- what stands among pairs of different names is found
  pub pair_found : (q : Name) (es : List (Name × V)) (v : V) → NamesApart es → Contains es (q, v) → find name_cmp q es ≡ Some v
  pair_found q [] v a c = absurd (omega (arith, c.1))
  pair_found q (x ∷ es) v a c = go (eq_by_cmp name_cmp q x.0) refl c.0 c.1 c.2 (pair_found q es v a.1)
    where
      go : (b : Bool) → eq_by_cmp name_cmp q x.0 ≡ b → (k : ℕ) → k < length (x ∷ es) → slice_index_or (x ∷ es) k (q, v) ≡ (q, v)
          → (Contains es (q, v) → find name_cmp q es ≡ Some v) → cond b (Some x.1) (find name_cmp q es) ≡ Some v
      go true s zero lt e again = ap (λ (y : Name × V). Some y.1) e
      go true s (suc k) lt e again =
          let there : find name_cmp x.0 es ≡ Some v = ap (λ (n : Name). find name_cmp n es) (sym (same_name q x.0 s)) ∙ again (k, omega arith, e) in
          absurd (none-some _ (sym a.0 ∙ there))
      go false s zero lt e again = absurd (false≢true (sym s ∙ is_name q x.0 (sym (ap (λ (y : Name × V). y.0) e))))
      go false s (suc k) lt e again = again (k, omega arith, e)

  -- the same is found in any order
  pub find-permuted : (es fs : List (Name × V)) → NamesApart es → IsPermutation es fs → (q : Name) → find name_cmp q fs ≡ find name_cmp q es
  find-permuted es fs a moved q = same_option _ _
      (λ v e. pair_found q es v a (Contains-permutation fs es (q, v) (IsPermutation-sym es fs moved) (found_pair q fs v e)))
      (λ v e. pair_found q fs v (apart-permuted es fs moved a) (Contains-permutation es fs (q, v) moved (found_pair q es v e)))

  -- the map of pairs in another order is the same map
  pub from_entries-permuted : (es fs : List (Name × V)) → NamesApart es → IsPermutation es fs → from_entries {R = name_cmp} fs ≡ from_entries es
  from_entries-permuted es fs a moved = maps_alike (from_entries fs) (from_entries es)
      (λ q. get-from_entries nat_list_cmp_total fs q ∙ find-permuted es fs a moved q ∙ sym (get-from_entries nat_list_cmp_total es q))
