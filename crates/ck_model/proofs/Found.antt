-- What is found in lists of pairs, and so in the bindings of stripes.
use Rattle.std.proofs.Common.{◌≡◌, ℕ, ◌<◌, ◌⊎◌, inl, inr, true, false, cond, List, [], ◌∷◌, ◌++◌, sym, refl, ap, ◌∙◌, subst, ⊎_elim, Some, None}
use Rattle.std.proofs.lemmas.Option.{none-some}
use Rattle.std.specs.Ordering.{eq_by_cmp}
use Rattle.std.specs.Cmp.Lexicographic.{nat_list_cmp_total}
use Rattle.std.specs.FinMap.{find, get, get-from_entries}
use Rattle.ck_model.specs.Promise.{Name, name_cmp}
use Rattle.ck_model.specs.Numbered.{AreDistinct, numbers, Holds, listed}
use Rattle.ck_model.specs.declared.contents.Content.{Content}
use Rattle.ck_model.specs.Contents.{Stripes, Binds, pairs_in, pairs_of, bindings}
use Rattle.ck_model.proofs.Numbered.{one_content, in_listed, listed_as}

module _ {V : Type 0} where
  pub found_either : (q : Name) (v : V) (xs ys : List (Name × V)) → find name_cmp q (xs ++ ys) ≡ Some v → (find name_cmp q xs ≡ Some v) ⊎ (find name_cmp q ys ≡ Some v)
  found_either q v [] ys e = inr e
  found_either q v (x ∷ xs) ys e =
      elim (eq_by_cmp name_cmp q x.0) as (λ b. cond b (Some x.1) (find name_cmp q (xs ++ ys)) ≡ Some v → (cond b (Some x.1) (find name_cmp q xs) ≡ Some v) ⊎ (find name_cmp q ys ≡ Some v)) [
        | true ↦ λ h. inl h
        | false ↦ λ h. found_either q v xs ys h
      ] e

  pub found_first : (q : Name) (v : V) (xs ys : List (Name × V)) → find name_cmp q xs ≡ Some v → find name_cmp q (xs ++ ys) ≡ Some v
  found_first q v [] ys e = absurd (none-some v e)
  found_first q v (x ∷ xs) ys e =
      elim (eq_by_cmp name_cmp q x.0) as (λ b. cond b (Some x.1) (find name_cmp q xs) ≡ Some v → cond b (Some x.1) (find name_cmp q (xs ++ ys)) ≡ Some v) [
        | true ↦ λ h. h
        | false ↦ λ h. found_first q v xs ys h
      ] e

  pub found_second : (q : Name) (v : V) (xs ys : List (Name × V)) → find name_cmp q ys ≡ Some v → (w : V) × (find name_cmp q (xs ++ ys) ≡ Some w)
  found_second q v [] ys e = (v, e)
  found_second q v (x ∷ xs) ys e =
      elim (eq_by_cmp name_cmp q x.0) as (λ b. (w : V) × (cond b (Some x.1) (find name_cmp q (xs ++ ys)) ≡ Some w)) [
        | true ↦ (x.1, refl)
        | false ↦ found_second q v xs ys e
      ]

  -- what isn't in the first list is as in the second
  pub find-append : (q : Name) (xs ys : List (Name × V)) → find name_cmp q xs ≡ None → find name_cmp q (xs ++ ys) ≡ find name_cmp q ys
  find-append q [] ys e = refl
  find-append q (x ∷ xs) ys e =
      elim (eq_by_cmp name_cmp q x.0) as (λ b. cond b (Some x.1) (find name_cmp q xs) ≡ None → cond b (Some x.1) (find name_cmp q (xs ++ ys)) ≡ find name_cmp q ys) [
        | true ↦ λ h. absurd (none-some x.1 (sym h))
        | false ↦ λ h. find-append q xs ys h
      ] e

  -- no name is bound in two stripes
  abbrev pub Once : Stripes V → Type 0
  Once hs = (t u : ℕ) (c d : Content V) (q : Name) (v w : V) → Holds hs t c → Holds hs u d → Binds c q v → Binds d q w → t ≡ u

  pub get-bindings : (hs : Stripes V) (q : Name) → get (bindings hs) q ≡ find name_cmp q (pairs_of hs)
  unfolding bindings
  get-bindings hs q = get-from_entries nat_list_cmp_total (pairs_of hs) q

  bound_in_one : (hs : Stripes V) (q : Name) (v : V) → find name_cmp q (pairs_of hs) ≡ Some v → (t : ℕ) × (c : Content V) × Holds hs t c × Binds c q v
  bound_in_one [] q v e = absurd (none-some v e)
  bound_in_one (h ∷ hs) q v e = ⊎_elim (λ b. (h.0, h.1, inl (refl, refl), b)) (λ r. let z = bound_in_one hs q v r in (z.0, z.1, inr z.2, z.3)) (found_either q v (pairs_in h.1) (pairs_of hs) e)

  -- what one of the stripes has is among all pairs
  pub present : (hs : Stripes V) (t : ℕ) (c : Content V) (q : Name) (v : V) → Holds hs t c → Binds c q v → (w : V) × (find name_cmp q (pairs_of hs) ≡ Some w)
  present [] t c q v h b = absurd h
  present (x ∷ xs) t c q v h b = ⊎_elim
      (λ (e : (x.0 ≡ t) × (x.1 ≡ c)). (v, found_first q v (pairs_in x.1) (pairs_of xs) (subst (λ (d : Content V). Binds d q v) (sym e.1) b)))
      (λ r. let z = present xs t c q v r b in found_second q z.0 (pairs_in x.1) (pairs_of xs) z.1) h

  -- what the bindings have is what one of the stripes has
  pub bound_where : (hs : Stripes V) (q : Name) (v : V) → get (bindings hs) q ≡ Some v → (t : ℕ) × (c : Content V) × Holds hs t c × Binds c q v
  bound_where hs q v e = bound_in_one hs q v (sym (get-bindings hs q) ∙ e)

  pub bound_from : (hs : Stripes V) → Once hs → AreDistinct (numbers hs) → (t : ℕ) (c : Content V) (q : Name) (v : V) → Holds hs t c → Binds c q v → get (bindings hs) q ≡ Some v
  bound_from hs once apart t c q v h b =
      let p = present hs t c q v h b in
      let z = bound_in_one hs q p.0 p.1 in
      let same : z.1 ≡ c = one_content hs apart t z.1 c (subst (λ (u : ℕ). Holds hs u z.1) (once z.0 t z.1 c q p.0 v z.2 h z.3 b) z.2) h in
      let there : Binds c q p.0 = subst (λ (d : Content V). Binds d q p.0) same z.3 in
      get-bindings hs q ∙ (p.1 ∙ (sym there ∙ b))

  pub listed_once : (n : ℕ) (w : ℕ → Content V) (q : Name) (t : ℕ) (c : Content V) (v : V) → Once (listed n w) → t < n → w t ≡ c → Binds c q v → get (bindings (listed n w)) q ≡ Some v
  listed_once n w q t c v once l e b =
      let p = present (listed n w) t c q v (listed_as n w t c l e) b in
      let z = bound_in_one (listed n w) q p.0 p.1 in
      let same_number : z.0 ≡ t = once z.0 t z.1 c q p.0 v z.2 (listed_as n w t c l e) z.3 b in
      let same : z.1 ≡ c = sym (in_listed n w z.0 z.1 z.2).1 ∙ (ap w same_number ∙ e) in
      let there : Binds c q p.0 = subst (λ (d : Content V). Binds d q p.0) same z.3 in
      get-bindings (listed n w) q ∙ (p.1 ∙ (sym there ∙ b))
