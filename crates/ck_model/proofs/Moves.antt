-- One slot of one row is written: the pairs around it stay, and another entry stands between them.
use Rattle.std.proofs.Common.{◌≡◌, ◌≢◌, ◌⊎◌, inl, inr, true, false, slice_index_or, ℕ, ◌+◌, ◌<◌, zero, suc, length, List, [], ◌∷◌, ◌++◌, Option, Some, None, refl, sym, ◌∙◌, ap, cond, arith, append_assoc}
use Rattle.std.specs.Prelude.{flat_map, slice_set}
use Rattle.std.specs.Option.{option_to_list}
use Rattle.std.specs.Ordering.{eq_by_cmp}
use Rattle.std.specs.FinMap.{find}
use Rattle.std.proofs.lemmas.Option.{none-some}
use Rattle.ck_model.specs.Promise.{Name, name_cmp}
use Rattle.ck_model.specs.Slots.{Slot, taken_in}
use Rattle.ck_model.specs.Contents.{NamesApart}
use Rattle.ck_model.proofs.Names.{is_name, no_name, cases_name}

-- lists that differ in what stands between two parts: what is in the one slot, and what is in the other
pub record Between {X : Type 0} (es fs : List X) (o o2 : Option X) : Type 0 where
  pub before : List X
  pub after : List X
  pub was : es ≡ before ++ (option_to_list o ++ after)
  pub is : fs ≡ before ++ (option_to_list o2 ++ after)

module _ {X : Type 0} where
  -- a slot is written
  pub slot_between : (slots : List (Option X)) (i : ℕ) (o : Option X) → i < length slots → Between (taken_in slots) (taken_in (slice_set slots i o)) (slice_index_or slots i None) o
  slot_between [] i o lt = absurd (omega arith)
  slot_between (None ∷ slots) zero None lt = record { before = []; after = taken_in slots; was = refl; is = refl }
  slot_between (None ∷ slots) zero (Some e) lt = record { before = []; after = taken_in slots; was = refl; is = refl }
  slot_between (Some d ∷ slots) zero None lt = record { before = []; after = taken_in slots; was = refl; is = refl }
  slot_between (Some d ∷ slots) zero (Some e) lt = record { before = []; after = taken_in slots; was = refl; is = refl }
  slot_between (None ∷ slots) (suc i) o lt = slot_between slots i o (omega arith)
  slot_between (Some d ∷ slots) (suc i) o lt =
      let z = slot_between slots i o (omega arith) in
      record { before = d ∷ z.before; after = z.after; was = ap (λ xs. d ∷ xs) z.was; is = ap (λ xs. d ∷ xs) z.is }

  -- a row is written
  pub row_between : (rows : List (List (Option X))) (r : ℕ) (row : List (Option X)) (o o2 : Option X) → r < length rows → Between (taken_in (slice_index_or rows r [])) (taken_in row) o o2
      → Between (flat_map taken_in rows) (flat_map taken_in (slice_set rows r row)) o o2
  row_between [] r row o o2 lt b = absurd (omega arith)
  row_between (old ∷ rows) zero row o o2 lt b =
      let rest : List X = flat_map taken_in rows in
      let joined : (p : Option X) → (b.before ++ (option_to_list p ++ b.after)) ++ rest ≡ b.before ++ (option_to_list p ++ (b.after ++ rest)) = λ p.
      append_assoc b.before (option_to_list p ++ b.after) rest ∙ ap (λ xs. b.before ++ xs) (append_assoc (option_to_list p) b.after rest) in
      record { before = b.before; after = b.after ++ rest; was = ap (λ xs. xs ++ rest) b.was ∙ joined o; is = ap (λ xs. xs ++ rest) b.is ∙ joined o2 }
  row_between (first ∷ rows) (suc r) row o o2 lt b =
      let z = row_between rows r row o o2 (omega arith) b in
      let joined : (p : Option X) → taken_in first ++ (z.before ++ (option_to_list p ++ z.after)) ≡ (taken_in first ++ z.before) ++ (option_to_list p ++ z.after) = λ p.
      sym (append_assoc (taken_in first) z.before (option_to_list p ++ z.after)) in
      record {
        before = taken_in first ++ z.before;
        after = z.after;
        was = ap (λ xs. taken_in first ++ xs) z.was ∙ joined o;
        is = ap (λ xs. taken_in first ++ xs) z.is ∙ joined o2;
      }

  -- an entry more
  pub length-between : (xs : List X) (e : X) (ys : List X) → length (xs ++ (e ∷ ys)) ≡ length (xs ++ ys) + 1
  length-between [] e ys = omega arith
  length-between (x ∷ xs) e ys = let z = length-between xs e ys in omega arith

module _ {V : Type 0} where
  -- the slot is free, or has this name
  abbrev pub IsOf : Name → Slot V → Type 0
  IsOf q None = Unit {0}
  IsOf q (Some e) = e.0 ≡ q

  -- the value in the slot
  abbrev pub value_in : Slot V → Option V
  value_in None = None
  value_in (Some e) = Some e.1

  other_name : (q : Name) (e : Name × V) (es : List (Name × V)) → find name_cmp q (e ∷ es) ≡ None → (e.0 ≢ q) × (find name_cmp q es ≡ None)
  other_name q e es h = go (cases_name q e.0)
    where
      go : ((eq_by_cmp name_cmp q e.0 ≡ true) × (q ≡ e.0)) ⊎ ((eq_by_cmp name_cmp q e.0 ≡ false) × (q ≢ e.0)) → (e.0 ≢ q) × (find name_cmp q es ≡ None)
      go (inl s) = absurd (none-some e.1 (sym h ∙ ap (λ b. cond b (Some e.1) (find name_cmp q es)) s.0))
      go (inr s) = ((λ f. s.1 (sym f)), sym (ap (λ b. cond b (Some e.1) (find name_cmp q es)) s.0) ∙ h)

  -- other names are found as without the slot
  pub find-between_other : (q x : Name) (xs : List (Name × V)) (o : Slot V) (ys : List (Name × V)) → IsOf q o → x ≢ q → find name_cmp x (xs ++ (option_to_list o ++ ys)) ≡ find name_cmp x (xs ++ ys)
  find-between_other q x [] None ys of ne = refl
  find-between_other q x [] (Some e) ys of ne = ap (λ b. cond b (Some e.1) (find name_cmp x ys)) (no_name x e.0 (λ f. ne (f ∙ of)))
  find-between_other q x (y ∷ xs) o ys of ne = ap (cond (eq_by_cmp name_cmp x y.0) (Some y.1)) (find-between_other q x xs o ys of ne)

  -- a name that stands nowhere else is bound to what is in the slot
  pub find-between : (q : Name) (xs : List (Name × V)) (o : Slot V) (ys : List (Name × V)) → IsOf q o → find name_cmp q (xs ++ ys) ≡ None → find name_cmp q (xs ++ (option_to_list o ++ ys)) ≡ value_in o
  find-between q [] None ys of none = none
  find-between q [] (Some e) ys of none = ap (λ b. cond b (Some e.1) (find name_cmp q ys)) (is_name q e.0 (sym of))
  find-between q (y ∷ xs) o ys of none =
      let z = other_name q y (xs ++ ys) none in
      ap (λ b. cond b (Some y.1) (find name_cmp q (xs ++ (option_to_list o ++ ys)))) (no_name q y.0 (λ f. z.0 (sym f))) ∙ find-between q xs o ys of z.1

  -- names stay apart where the slot gets one that stands nowhere else
  pub apart-between : (q : Name) (xs : List (Name × V)) (o : Slot V) (ys : List (Name × V)) → IsOf q o → find name_cmp q (xs ++ ys) ≡ None → NamesApart (xs ++ ys) → NamesApart (xs ++ (option_to_list o ++ ys))
  apart-between q [] None ys of none a = a
  apart-between q [] (Some e) ys of none a = (ap (λ (x : Name). find name_cmp x ys) of ∙ none, a)
  apart-between q (y ∷ xs) o ys of none a =
      let z = other_name q y (xs ++ ys) none in
      (find-between_other q y.0 xs o ys of z.0 ∙ a.0, apart-between q xs o ys of z.1 a.1)

  -- a name that stands in the slot stands nowhere else
  pub apart_without : (q : Name) (v : V) (xs ys : List (Name × V)) → NamesApart (xs ++ ((q, v) ∷ ys)) → NamesApart (xs ++ ys) × (find name_cmp q (xs ++ ys) ≡ None)
  apart_without q v [] ys a = (a.1, a.0)
  apart_without q v (y ∷ xs) ys a =
      let z = apart_without q v xs ys a.1 in
      let there : find name_cmp q (xs ++ ((q, v) ∷ ys)) ≡ Some v = find-between q xs (Some (q, v)) ys refl z.1 in
      let ne : q ≢ y.0 = λ f. none-some v (sym a.0 ∙ (ap (λ (x : Name). find name_cmp x (xs ++ ((q, v) ∷ ys))) (sym f) ∙ there)) in (
        (sym (find-between_other q y.0 xs (Some (q, v)) ys refl (λ f. ne (sym f))) ∙ a.0, z.0),
        ap (λ b. cond b (Some y.1) (find name_cmp q (xs ++ ys))) (no_name q y.0 ne) ∙ z.1,
      )
