-- What was seen of a list to which callers add.
use Rattle.std.proofs.Common.{◌≡◌, ◌≢◌, ◌⊎◌, ℕ, List, [], ◌∷◌, ◌++◌, append-nil, append_assoc, sym, ap, ◌∙◌, subst, ⊎_elim}
use Rattle.ck_core.specs.State.{NoneBy, Sees}
use Rattle.ck_core.specs.Steps.{longer}
use Rattle.ck_core.proofs.Lists.{longer_cut}

module _ {A : Type 0} (by : A → ℕ) where
  -- one more that is by another
  pub none_more : (m : ℕ) (xs : List A) (x : A) → NoneBy by m xs → by x ≢ m → NoneBy by m (xs ++ x ∷ [])
  none_more m [] x none other = (other, tt)
  none_more m (y ∷ ys) x none other = (none.0, none_more m ys x none.1 other)

  pub none_first : (m : ℕ) (xs ys : List A) → NoneBy by m (xs ++ ys) → NoneBy by m xs
  none_first m [] ys none = tt
  none_first m (x ∷ xs) ys none = (none.0, none_first m xs ys none.1)

  none_second : (m : ℕ) (xs ys : List A) → NoneBy by m (xs ++ ys) → NoneBy by m ys
  none_second m [] ys none = none
  none_second m (x ∷ xs) ys none = none_second m xs ys none.1

  module _ (P : ℕ → Type 0) (all seen : List A) where
    -- all was seen
    pub sees_all : seen ≡ all → Sees by P all seen
    sees_all is = record { unseen = []; begins = sym is ∙ sym (append-nil seen); by_others = λ _ _. tt }

    -- nothing is said of any caller
    pub sees_none : (unseen : List A) → all ≡ seen ++ unseen → ((m : ℕ) → ¬ (P m)) → Sees by P all seen
    sees_none unseen begins nobody = record { unseen = unseen; begins = begins; by_others = λ m p. absurd (nobody m p) }

    module _ (h : Sees by P all seen) where
      -- as much was seen, of no caller besides
      pub sees_as : (Q : ℕ → Type 0) (again : List A) → again ≡ seen → ((m : ℕ) → Q m → P m) → Sees by Q all again
      sees_as Q again same fewer = record { unseen = h.unseen; begins = h.begins ∙ ap (λ l. l ++ h.unseen) (sym same); by_others = λ m q. h.by_others m (fewer m q) }

      -- another adds one
      pub sees_more : (x : A) → ((m : ℕ) → P m → by x ≢ m) → Sees by P (all ++ x ∷ []) seen
      sees_more x other = record {
        unseen = h.unseen ++ x ∷ [];
        begins = ap (λ l. l ++ x ∷ []) h.begins ∙ append_assoc seen h.unseen (x ∷ []);
        by_others = λ m p. none_more m h.unseen x (h.by_others m p) (other m p);
      }

      -- the longer of what two have seen, with what it has more than the first, which is by others, and than the second
      pub sees_both : (Q R : ℕ → Type 0) (theirs : List A) → Sees by Q all theirs → ((m : ℕ) → R m → P m ⊎ Q m)
          → Sees by R all (longer seen theirs) × ((x : List A) × (longer seen theirs ≡ seen ++ x) × ((m : ℕ) → P m → NoneBy by m x)) × ((y : List A) × (longer seen theirs ≡ theirs ++ y))
      sees_both Q R theirs g either =
          let cut = longer_cut seen h.unseen theirs g.unseen (sym h.begins ∙ g.begins) in
          let x = cut.0 in
          let rest = cut.2 in (
            record {
              unseen = rest;
              begins = h.begins ∙ (ap (λ l. seen ++ l) cut.4 ∙ (sym (append_assoc seen x rest) ∙ ap (λ l. l ++ rest) (sym cut.3)));
              by_others = λ m r. ⊎_elim (λ p. none_second m x rest (subst (NoneBy by m) cut.4 (h.by_others m p))) (λ q. none_second m cut.1 rest (subst (NoneBy by m) cut.5 (g.by_others m q))) (either m r);
            },
            (x, cut.3, λ m p. none_first m x rest (subst (NoneBy by m) cut.4 (h.by_others m p))),
            (cut.1, cut.6),
          )
