-- How many names are bound, and the pairs in rising order.
use Rattle.std.proofs.Common.{◌≡◌, ◌≢◌, inl, inr, ℕ, ◌+◌, true, false, cond, T, List, [], ◌∷◌, ◌++◌, length, is_some, sym, refl, ap, ◌∙◌, subst, arith, Option, Some, None}
use Rattle.std.proofs.lemmas.Option.{none-some}
use Rattle.std.specs.Ordering.{eq_by_cmp}
use Rattle.std.specs.Cmp.Lexicographic.{nat_list_cmp_total}
use Rattle.std.specs.FinMap.{find, get, len, entries, contains_key, from_entries, from_sorted, get-from_entries, get-from_sorted, entries-from_sorted, len-insert, len-empty}
use Rattle.std.specs.FinMap.Entries.{is_sorted}
use Rattle.ck_model.specs.Promise.{Name, name_cmp, Map}
use Rattle.ck_model.specs.Numbered.{IsIn, AreDistinct, numbers, Holds}
use Rattle.ck_model.specs.declared.contents.Content.{Content}
use Rattle.ck_model.specs.Contents.{Layout, Stripes, pairs_in, pairs_of, bindings, NamesApart, Lawful}
use Rattle.ck_model.proofs.Numbered.{in_held}
use Rattle.ck_model.proofs.Names.{maps_alike, is_name}
use Rattle.ck_model.proofs.Found.{Once, get-bindings, bound_where}

module _ {V : Type 0} where
  -- as many names are bound as there are pairs
  pub len-apart : (es : List (Name × V)) → NamesApart es → len (from_entries {R = name_cmp} es) ≡ length es
  len-apart [] a = len-empty name_cmp V
  len-apart (e ∷ es) a =
      let is : contains_key (from_entries {R = name_cmp} es) e.0 ≡ false = ap is_some (get-from_entries nat_list_cmp_total es e.0 ∙ a.0) in
      let rest = len-apart es a.1 in
      len-insert nat_list_cmp_total (from_entries es) e.0 e.1 ∙ (ap (λ b. cond b (len (from_entries {R = name_cmp} es)) (len (from_entries {R = name_cmp} es) + 1)) is ∙ omega arith)

  -- what neither list has isn't in both together
  pub not_found : (q : Name) (xs ys : List (Name × V)) → find name_cmp q xs ≡ None → find name_cmp q ys ≡ None → find name_cmp q (xs ++ ys) ≡ None
  not_found q [] ys a b = b
  not_found q (x ∷ xs) ys a b =
      elim (eq_by_cmp name_cmp q x.0) as (λ t. cond t (Some x.1) (find name_cmp q xs) ≡ None → cond t (Some x.1) (find name_cmp q (xs ++ ys)) ≡ None) [
        | true ↦ λ h. h
        | false ↦ λ h. not_found q xs ys h b
      ] a

  no_value : (o : Option V) → ((w : V) → ¬ (o ≡ Some w)) → o ≡ None
  no_value None h = refl
  no_value (Some w) h = absurd (h w refl)

  named_more : (q : Name) (x : Name × V) (xs : List (Name × V)) → (find name_cmp q xs ≢ None) → find name_cmp q (x ∷ xs) ≢ None
  named_more q x xs h = elim (eq_by_cmp name_cmp q x.0) as (λ t. cond t (Some x.1) (find name_cmp q xs) ≢ None) [
    | true ↦ λ e. none-some x.1 (sym e)
    | false ↦ h
  ]

  named_first : (x : Name × V) (xs : List (Name × V)) → find name_cmp x.0 (x ∷ xs) ≢ None
  named_first x xs e = none-some x.1 (sym e ∙ ap (λ t. cond t (Some x.1) (find name_cmp x.0 xs)) (is_name x.0 x.0 refl))

  pub apart-append : (xs ys : List (Name × V)) → NamesApart xs → NamesApart ys → ((q : Name) (w : V) → find name_cmp q xs ≢ None → ¬ (find name_cmp q ys ≡ Some w)) → NamesApart (xs ++ ys)
  apart-append [] ys a b apart = b
  apart-append (x ∷ xs) ys a b apart =
      (not_found x.0 xs ys a.0 (no_value (find name_cmp x.0 ys) (λ w. apart x.0 w (named_first x xs))), apart-append xs ys a.1 b (λ q w h. apart q w (named_more q x xs h)))

  -- a list in rising order that finds what the map has is its entries
  pub rising_entries : (m : Map V) (es : List (Name × V)) → T (is_sorted name_cmp es) → ((q : Name) → find name_cmp q es ≡ get m q) → entries m ≡ es
  rising_entries m es sorted same =
      ap entries (maps_alike m (from_sorted {R = name_cmp} es) (λ q. sym (get-from_sorted name_cmp es q sorted ∙ same q))) ∙ entries-from_sorted name_cmp es sorted

  found_some : (o : Option V) → o ≢ None → (v : V) × (o ≡ Some v)
  found_some None h = absurd (h refl)
  found_some (Some v) h = (v, refl)

  pub names_apart : (hs : Stripes V) → AreDistinct (numbers hs) → Once hs → ((t : ℕ) (c : Content V) → Holds hs t c → NamesApart (pairs_in c)) → NamesApart (pairs_of hs)
  names_apart [] apart once each = tt
  names_apart (h ∷ hs) apart once each =
      apart-append (pairs_in h.1) (pairs_of hs) (each h.0 h.1 (inl (refl, refl))) (names_apart hs apart.1 (λ t u c d q v w g1 g2. once t u c d q v w (inr g1) (inr g2)) (λ t c g. each t c (inr g)))
      (λ q w some found.
      let v = found_some (find name_cmp q (pairs_in h.1)) some in
      let z = bound_where hs q w (get-bindings hs q ∙ found) in
      apart.0 (subst (λ (t : ℕ). IsIn t (numbers hs)) (sym (once h.0 z.0 h.1 z.1 q v.0 w (inl (refl, refl)) (inr z.2) v.1 z.3)) (in_held hs z.0 z.1 z.2)))

  -- the number of names is the number of pairs
  pub len-bindings : (k : Layout) (hs : Stripes V) → Lawful k hs → len (bindings hs) ≡ length (pairs_of hs)
  unfolding bindings
  len-bindings k hs lawful = len-apart (pairs_of hs) (names_apart hs lawful.distinct lawful.once (λ t c h. (lawful.sound t c h).apart))
