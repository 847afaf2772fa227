-- Room for several names: each finds a slot, and a call on one of them keeps the room.
use Rattle.std.proofs.Common.{◌≡◌, ◌≢◌, ◌⊎◌, inl, inr, ⊎_elim, ℕ, zero, suc, ◌+◌, ◌*◌, ◌/◌, ◌%◌, ◌^◌, ◌<◌, ◌≤◌, Bool, true, false, cond, ◌&&◌, ◌||◌, List, [], ◌∷◌, ◌++◌, Option, Some, None, IsSome, is_none, length, refl, sym, ◌∙◌, ap, subst, arith}
use Rattle.std.specs.Prelude.{◌==◌, flat_map}
use Rattle.std.specs.List.{AllByRecursion}
use Rattle.std.specs.Option.{option_or}
use Rattle.std.specs.Ordering.{eq_by_cmp}
use Rattle.std.specs.FinMap.{find, get}
use Rattle.std.proofs.lemmas.Bool.{eq-eqb, or_left, or_right, or_parts, and_from, false≢true}
use Rattle.std.proofs.lemmas.Nat.{div-add-mod'}
use Rattle.std.proofs.lemmas.List.{length-append}
use Rattle.std.proofs.lemmas.Option.{none-some}
use Rattle.ck_model.specs.Arithmetic.{index_of, second_of}
use Rattle.ck_model.specs.Promise.{Name, name_cmp}
use Rattle.ck_model.specs.Numbered.{IsIn, AreDistinct, Holds}
use Rattle.ck_model.specs.Slots.{Slot, slot_at, taken_in, IsFull}
use Rattle.ck_model.specs.declared.contents.Content.{Content}
use Rattle.ck_model.specs.Contents.{Layout, layout, Stripes, Binds, IsBucketOf, row_at, rows_of, pairs_in, bindings, NamesApart, Lawful, power_of, bucket_in}
use Rattle.ck_model.specs.Paths.{HasNoRoom}
use Rattle.ck_model.proofs.Names.{is_name, no_name, same_name}
use Rattle.ck_model.proofs.Found.{bound_from, found_first, found_either, find-append}
use Rattle.ck_model.proofs.Counted.{not_found, apart-append}
use Rattle.ck_model.proofs.Belongs.{found_slot}
use Rattle.ck_model.proofs.Rows.{held_there}
use Rattle.ck_model.proofs.Writes.{stands}
use Rattle.ck_stripe.specs.Stripe.{StripeState}
use Rattle.ck_stripe.specs.Stripes.{stripe_at, contents_of}
use Rattle.ck_stripe.specs.Tables.{AreHeld}
use Rattle.ck_section.specs.Calls.{ChangesContents}
use Rattle.ck_section.specs.RoomForAll.{IsFreeFor, IsKept, KeepsOthers, pairs_at, has_bucket, may_come, coming, HasSlots, AreSomeOf, HasRoomForAll}
use Rattle.ck_section.proofs.Doublings.{home}
use Rattle.ck_section.proofs.Kept.{power_kept}

abbrev pub one : Bool → ℕ
one b = cond b 1 0

-- whether bucket b is one of the name's two at this power
abbrev pub is_bucket : Layout → ℕ → ℕ → Name → Bool
is_bucket k p b q = (b == index_of p (k.hash q)) || (b == second_of p (k.hash q))

-- the name's first bucket at this power, its second one, or both where they are two
abbrev some_at : Layout → ℕ → Name → List ℕ → Type 0
some_at k p q bs =
    (bs ≡ index_of p (k.hash q) ∷ []) ⊎ (bs ≡ second_of p (k.hash q) ∷ [])
    ⊎ ((index_of p (k.hash q) ≢ second_of p (k.hash q)) × (bs ≡ index_of p (k.hash q) ∷ second_of p (k.hash q) ∷ []))

is_bucket_of : (k : Layout) (p b : ℕ) (q : Name) → IsBucketOf k.hash p q b → is_bucket k p b q ≡ true
is_bucket_of k p b q of = ⊎_elim
    (λ e. or_left (b == index_of p (k.hash q)) (b == second_of p (k.hash q)) (eq-eqb b (index_of p (k.hash q)) e))
    (λ e. or_right (b == index_of p (k.hash q)) (b == second_of p (k.hash q)) (eq-eqb b (second_of p (k.hash q)) e)) of

-- a choice of three, one by one
pub or_three : (x y z : Bool) → ((x || y) || z) ≡ (x || y || z)
or_three true y z = refl
or_three false y z = refl

-- what has no value
pub no_value : {A : Type 0} (o : Option A) → ((x : A) → ¬ (o ≡ Some x)) → o ≡ None
no_value None none = refl
no_value (Some x) none = absurd (none x refl)

module _ {V : Type 0} where
  -- 1 where the slot has another name
  abbrev other : Name → Slot V → ℕ
  other q None = 0
  other q (Some e) = cond (eq_by_cmp name_cmp q e.0) 0 1

  -- how many of the pairs have other names
  abbrev others : Name → List (Name × V) → ℕ
  others q [] = 0
  others q (e ∷ es) = other q (Some e) + others q es

  other_free : (q : Name) (slot : Slot V) → IsFreeFor q slot → other q slot ≡ 0
  other_free q None free = refl
  other_free q (Some e) free = ap (λ b. cond b 0 1) (is_name q e.0 (sym free))

  other_kept : (q : Name) (old new : Slot V) → IsKept q old new → other q new ≡ other q old
  other_kept q old new kept = ⊎_elim (λ e. ap (other q) e) (λ (f : IsFreeFor q old × IsFreeFor q new). other_free q new f.1 ∙ sym (other_free q old f.0)) kept

  others_first : (q : Name) (slot : Slot V) (slots : List (Slot V)) → others q (taken_in (slot ∷ slots)) ≡ other q slot + others q (taken_in slots)
  others_first q None slots = omega arith
  others_first q (Some e) slots = refl

  others-append : (q : Name) (xs ys : List (Name × V)) → others q (xs ++ ys) ≡ others q xs + others q ys
  others-append q [] ys = omega arith
  others-append q (x ∷ xs) ys = let rest = others-append q xs ys in omega (arith, rest)

  others_kept : (q : Name) (old new : List (Slot V)) → ((i : ℕ) → IsKept q (slot_at old i) (slot_at new i)) → others q (taken_in new) ≡ others q (taken_in old)
  others_kept q [] [] kept = refl
  others_kept q [] (y ∷ ys) kept =
      let here : other q y ≡ 0 = other_kept q None y (kept 0) in
      let rest : others q (taken_in ys) ≡ 0 = others_kept q [] ys (λ i. kept (suc i)) in
      others_first q y ys ∙ (λ i. here i + rest i)
  others_kept q (x ∷ xs) [] kept =
      let here : 0 ≡ other q x = other_kept q x None (kept 0) in
      let rest : 0 ≡ others q (taken_in xs) = others_kept q xs [] (λ i. kept (suc i)) in
      (λ i. here i + rest i) ∙ sym (others_first q x xs)
  others_kept q (x ∷ xs) (y ∷ ys) kept = others_first q y ys ∙ (λ i. other_kept q x y (kept 0) i + others_kept q xs ys (λ j. kept (suc j)) i) ∙ sym (others_first q x xs)

  -- Each pair but that of the name has another name.
  counted : (q : Name) (es : List (Name × V)) → NamesApart es → length es + one (is_none (find name_cmp q es)) ≡ others q es + 1
  counted q [] apart = refl
  counted q (e ∷ es) apart = go (eq_by_cmp name_cmp q e.0) refl (counted q es apart.1)
    where
      go : (b : Bool) → eq_by_cmp name_cmp q e.0 ≡ b → length es + one (is_none (find name_cmp q es)) ≡ others q es + 1
          → suc (length es) + one (is_none (cond b (Some e.1) (find name_cmp q es))) ≡ (cond b 0 1 + others q es) + 1
      go true is rest =
          let none : find name_cmp q es ≡ None = ap (λ (n : Name). find name_cmp n es) (same_name q e.0 is) ∙ apart.0 in
          let first : one (is_none (find name_cmp q es)) ≡ 1 = ap (λ (o : Option V). one (is_none o)) none in
          omega (arith, rest, first)
      go false is rest = omega (arith, rest)

  -- A slot that is free or has the name q is nothing to another name.
  skipped : (p q : Name) → p ≢ q → (slot : Slot V) (slots : List (Slot V)) → IsFreeFor q slot → find name_cmp p (taken_in (slot ∷ slots)) ≡ find name_cmp p (taken_in slots)
  skipped p q ne None slots free = refl
  skipped p q ne (Some e) slots free = ap (λ b. cond b (Some e.1) (find name_cmp p (taken_in slots))) (no_name p e.0 (λ f. ne (f ∙ free)))

  free_after : (q : Name) (slot : Slot V) → IsKept q None slot → IsFreeFor q slot
  free_after q slot kept = ⊎_elim (λ e. subst (λ (o : Slot V). IsFreeFor q o) (sym e) tt) (λ (f : IsFreeFor {V = V} q None × IsFreeFor q slot). f.1) kept

  free_before : (q : Name) (slot : Slot V) → IsKept q slot None → IsFreeFor q slot
  free_before q slot kept = ⊎_elim (λ e. subst (λ (o : Slot V). IsFreeFor q o) e tt) (λ (f : IsFreeFor q slot × IsFreeFor {V = V} q None). f.0) kept

  same_first : (p : Name) (slot : Slot V) (xs ys : List (Slot V)) → find name_cmp p (taken_in ys) ≡ find name_cmp p (taken_in xs) → find name_cmp p (taken_in (slot ∷ ys)) ≡ find name_cmp p (taken_in (slot ∷ xs))
  same_first p None xs ys same = same
  same_first p (Some e) xs ys same = ap (λ (o : Option V). cond (eq_by_cmp name_cmp p e.0) (Some e.1) o) same

  find_kept : (p q : Name) → p ≢ q → (old new : List (Slot V)) → ((i : ℕ) → IsKept q (slot_at old i) (slot_at new i)) → find name_cmp p (taken_in new) ≡ find name_cmp p (taken_in old)
  find_kept p q ne [] [] kept = refl
  find_kept p q ne [] (y ∷ ys) kept = skipped p q ne y ys (free_after q y (kept 0)) ∙ find_kept p q ne [] ys (λ i. kept (suc i))
  find_kept p q ne (x ∷ xs) [] kept = find_kept p q ne xs [] (λ i. kept (suc i)) ∙ sym (skipped p q ne x xs (free_before q x (kept 0)))
  find_kept p q ne (x ∷ xs) (y ∷ ys) kept =
      let rest : find name_cmp p (taken_in ys) ≡ find name_cmp p (taken_in xs) = find_kept p q ne xs ys (λ i. kept (suc i)) in
      ⊎_elim
      (λ e. ap (λ (slot : Slot V). find name_cmp p (taken_in (slot ∷ ys))) e ∙ same_first p x xs ys rest)
      (λ (f : IsFreeFor q x × IsFreeFor q y). skipped p q ne y ys f.1 ∙ rest ∙ sym (skipped p q ne x xs f.0)) (kept 0)

  pub find_either : (p : Name) (xs ys : List (Name × V)) → find name_cmp p (xs ++ ys) ≡ option_or (find name_cmp p xs) (find name_cmp p ys)
  find_either p [] ys = refl
  find_either p (x ∷ xs) ys = elim (eq_by_cmp name_cmp p x.0) as (λ b. cond b (Some x.1) (find name_cmp p (xs ++ ys)) ≡ option_or (cond b (Some x.1) (find name_cmp p xs)) (find name_cmp p ys)) [
    | true ↦ refl
    | false ↦ find_either p xs ys
  ]

  absent_first : (q : Name) (xs ys : List (Name × V)) → find name_cmp q (xs ++ ys) ≡ None → find name_cmp q xs ≡ None
  absent_first q xs ys none = no_value (find name_cmp q xs) (λ v e. none-some v (sym none ∙ found_first q v xs ys e))

  absent_second : (q : Name) (xs ys : List (Name × V)) → find name_cmp q (xs ++ ys) ≡ None → find name_cmp q ys ≡ None
  absent_second q xs ys none = sym (find-append q xs ys (absent_first q xs ys none)) ∙ none

  -- a name of the first is not in the second
  apart_found : (q : Name) (v : V) (xs ys : List (Name × V)) → NamesApart (xs ++ ys) → find name_cmp q xs ≡ Some v → find name_cmp q ys ≡ None
  apart_found q v [] ys apart found = absurd (none-some v found)
  apart_found q v (x ∷ xs) ys apart found = go (eq_by_cmp name_cmp q x.0) refl found (apart_found q v xs ys apart.1)
    where
      go : (b : Bool) → eq_by_cmp name_cmp q x.0 ≡ b → cond b (Some x.1) (find name_cmp q xs) ≡ Some v → (find name_cmp q xs ≡ Some v → find name_cmp q ys ≡ None) → find name_cmp q ys ≡ None
      go true is found again = ap (λ (n : Name). find name_cmp n ys) (same_name q x.0 is) ∙ absent_second x.0 xs ys apart.0
      go false is found again = again found

  absent_row : (q : Name) (rows : List (List (Slot V))) (r : ℕ) → find name_cmp q (flat_map taken_in rows) ≡ None → find name_cmp q (taken_in (row_at rows r)) ≡ None
  absent_row q [] r none = refl
  absent_row q (row ∷ rows) zero none = absent_first q (taken_in row) (flat_map taken_in rows) none
  absent_row q (row ∷ rows) (suc r) none = absent_row q rows r (absent_second q (taken_in row) (flat_map taken_in rows) none)

  -- pairs of different names are so in each part,
  apart_split : (xs ys : List (Name × V)) → NamesApart (xs ++ ys) → NamesApart xs × NamesApart ys
  apart_split [] ys apart = (tt, apart)
  apart_split (x ∷ xs) ys apart = let rest = apart_split xs ys apart.1 in ((absent_first x.0 xs ys apart.0, rest.0), rest.1)

  -- so in each row,
  apart_row : (rows : List (List (Slot V))) (r : ℕ) → NamesApart (flat_map taken_in rows) → NamesApart (taken_in (row_at rows r))
  apart_row [] r apart = tt
  apart_row (row ∷ rows) zero apart = (apart_split (taken_in row) (flat_map taken_in rows) apart).0
  apart_row (row ∷ rows) (suc r) apart = apart_row rows r (apart_split (taken_in row) (flat_map taken_in rows) apart).1

  -- a name stands in one row
  one_row : (q : Name) (v w : V) (rows : List (List (Slot V))) (r u : ℕ) → NamesApart (flat_map taken_in rows) → find name_cmp q (taken_in (row_at rows r)) ≡ Some v → find name_cmp q (taken_in (row_at rows u)) ≡ Some w → r ≡ u
  one_row q v w [] r u apart is also = absurd (none-some v is)
  one_row q v w (row ∷ rows) zero zero apart is also = refl
  one_row q v w (row ∷ rows) zero (suc u) apart is also =
      absurd (none-some w (sym (absent_row q rows u (apart_found q v (taken_in row) (flat_map taken_in rows) apart is)) ∙ also))
  one_row q v w (row ∷ rows) (suc r) zero apart is also =
      absurd (none-some v (sym (absent_row q rows r (apart_found q w (taken_in row) (flat_map taken_in rows) apart also)) ∙ is))
  one_row q v w (row ∷ rows) (suc r) (suc u) apart is also = ap suc (one_row q v w rows r u (apart_split (taken_in row) (flat_map taken_in rows) apart).1 is also)

  -- and in each bucket of some stripes
  apart_in : (hs : Stripes V) (t r : ℕ) → ((u : ℕ) (c : Content V) → Holds hs u c → NamesApart (pairs_in c)) → NamesApart (taken_in (row_at (rows_of hs t) r))
  apart_in [] t r each = tt
  apart_in (h ∷ hs) t r each = elim (h.0 == t) as (λ b. NamesApart (taken_in (row_at (cond b h.1.rows (rows_of hs t)) r))) [
    | true ↦ apart_row h.1.rows r (each h.0 h.1 (inl (refl, refl)))
    | false ↦ apart_in hs t r (λ u c g. each u c (inr g))
  ]

  -- n slots that are full have n entries
  full_many : (n : ℕ) (slots : List (Slot V)) → ((i : ℕ) → i < n → IsSome (slot_at slots i)) → n ≤ length (taken_in slots)
  full_many zero slots full = omega arith
  full_many (suc n) [] full = absurd (false≢true (full 0 (omega arith)))
  full_many (suc n) (None ∷ slots) full = absurd (false≢true (full 0 (omega arith)))
  full_many (suc n) (Some e ∷ slots) full = let rest = full_many n slots (λ i lt. full (suc i) (omega arith)) in omega (arith, rest)

  module _ (k : Layout) (hs : Stripes V) (lawful : Lawful k hs) where
    apart_at : (b : ℕ) → NamesApart (taken_in (bucket_in k hs b))
    apart_at b = apart_in hs (b % 2 ^ k.s) (b / 2 ^ k.s) (λ t c h. (lawful.sound t c h).apart)

    -- what stands in a bucket is bound by its stripe
    bound_by : (b : ℕ) (q : Name) (v : V) → find name_cmp q (taken_in (bucket_in k hs b)) ≡ Some v → (c : Content V) × Holds hs (b % 2 ^ k.s) c × (rows_of hs (b % 2 ^ k.s) ≡ c.rows) × Binds c q v
    bound_by b q v e =
        let t : ℕ = b % 2 ^ k.s in
        let at : (i : ℕ) × (slot_at (bucket_in k hs b) i ≡ Some (q, v)) = found_slot q (bucket_in k hs b) v e in
        let held : (c : Content V) × Holds hs t c × (rows_of hs t ≡ c.rows) = held_there hs t (b / 2 ^ k.s) at.0 (q, v) at.1 in (
          held.0,
          held.1,
          held.2,
          stands k t held.0 (lawful.sound t held.0 held.1) (b / 2 ^ k.s) at.0 q v (subst (λ (rows : List (List (Slot V))). slot_at (row_at rows (b / 2 ^ k.s)) at.0 ≡ Some (q, v)) held.2 at.1),
        )

    unbound_there : (q : Name) → get (bindings hs) q ≡ None → (b : ℕ) → find name_cmp q (taken_in (bucket_in k hs b)) ≡ None
    unbound_there q none b = no_value (find name_cmp q (taken_in (bucket_in k hs b))) (λ v e.
        let by = bound_by b q v e in
        none-some v (sym none ∙ bound_from hs lawful.once lawful.distinct (b % 2 ^ k.s) by.0 q v by.1 by.3))

    -- a name stands in one bucket
    one_bucket : (b d : ℕ) (q : Name) (v w : V) → find name_cmp q (taken_in (bucket_in k hs b)) ≡ Some v → find name_cmp q (taken_in (bucket_in k hs d)) ≡ Some w → b ≡ d
    one_bucket b d q v w is also =
        let t : ℕ = b % 2 ^ k.s in
        let u : ℕ = d % 2 ^ k.s in
        let by = bound_by b q v is in
        let for = bound_by d q w also in
        let stripe : t ≡ u = lawful.once t u by.0 for.0 q v w by.1 for.1 by.3 for.3 in
        let row : b / 2 ^ k.s ≡ d / 2 ^ k.s = one_row q v w by.0.rows (b / 2 ^ k.s) (d / 2 ^ k.s) (lawful.sound t by.0 by.1).apart
        (subst (λ (rows : List (List (Slot V))). find name_cmp q (taken_in (row_at rows (b / 2 ^ k.s))) ≡ Some v) by.2 is)
        (subst (λ (rows : List (List (Slot V))). find name_cmp q (taken_in (row_at rows (d / 2 ^ k.s))) ≡ Some w) (ap (rows_of hs) (sym stripe) ∙ by.2) also) in
        sym (div-add-mod' b (2 ^ k.s)) ∙ (λ i. row i * 2 ^ k.s + stripe i) ∙ div-add-mod' d (2 ^ k.s)

    -- the names in one bucket, or in two, are different
    apart_one : (b : ℕ) → NamesApart (pairs_at k hs (b ∷ []))
    apart_one b = apart-append (taken_in (bucket_in k hs b)) [] (apart_at b) tt (λ q w some found. none-some w found)

    apart_two : (b d : ℕ) → b ≢ d → NamesApart (pairs_at k hs (b ∷ d ∷ []))
    apart_two b d ne = apart-append (taken_in (bucket_in k hs b)) (pairs_at k hs (d ∷ [])) (apart_at b) (apart_one d)
        (λ q w some found. ⊎_elim
        (λ also. some (no_value (find name_cmp q (taken_in (bucket_in k hs b))) (λ v is. ne (one_bucket b d q v w is also))))
        (λ also. none-some w also) (found_either q w (taken_in (bucket_in k hs d)) [] found))

    apart_some : (q : Name) (bs : List ℕ) → AreSomeOf k hs q bs → NamesApart (pairs_at k hs bs)
    apart_some q bs some =
        let first : ℕ = index_of (power_of hs) (k.hash q) in
        let second : ℕ = second_of (power_of hs) (k.hash q) in
        ⊎_elim
        (λ e. subst (λ (ds : List ℕ). NamesApart (pairs_at k hs ds)) (sym e) (apart_one first))
        (λ r. ⊎_elim
        (λ e. subst (λ (ds : List ℕ). NamesApart (pairs_at k hs ds)) (sym e) (apart_one second))
        (λ (z : (first ≢ second) × (bs ≡ first ∷ second ∷ [])). subst (λ (ds : List ℕ). NamesApart (pairs_at k hs ds)) (sym z.1) (apart_two first second z.0)) r) some

    -- what each of the buckets lacks all lack
    lacked : (q : Name) (bs : List ℕ) → ((b : ℕ) → find name_cmp q (taken_in (bucket_in k hs b)) ≡ None) → find name_cmp q (pairs_at k hs bs) ≡ None
    lacked q [] each = refl
    lacked q (b ∷ bs) each = not_found q (taken_in (bucket_in k hs b)) (pairs_at k hs bs) (each b) (lacked q bs each)

    -- a name stands in no bucket but its own
    not_there : (b : ℕ) (q : Name) → is_bucket k (power_of hs) b q ≡ false → find name_cmp q (taken_in (bucket_in k hs b)) ≡ None
    not_there b q out = no_value (find name_cmp q (taken_in (bucket_in k hs b))) (λ v e.
        let at : (i : ℕ) × (slot_at (bucket_in k hs b) i ≡ Some (q, v)) = found_slot q (bucket_in k hs b) v e in
        false≢true (sym out ∙ is_bucket_of k (power_of hs) b q (home k hs lawful b at.0 q v at.1)))

    not_among : (bs : List ℕ) (q : Name) → has_bucket k hs bs q ≡ false → find name_cmp q (pairs_at k hs bs) ≡ None
    not_among [] q out = refl
    not_among (b ∷ bs) q out =
        let first : Bool = b == index_of (power_of hs) (k.hash q) in
        let second : Bool = b == second_of (power_of hs) (k.hash q) in
        let none = or_parts (first || second) (has_bucket k hs bs q) (or_three first second (has_bucket k hs bs q) ∙ out) in
        not_found q (taken_in (bucket_in k hs b)) (pairs_at k hs bs) (not_there b q none.0) (not_among bs q none.1)

    -- Whether the name may come to these buckets or stands there, it counts once where they have one of its own.
    total : (bs : List ℕ) (q : Name) → NamesApart (pairs_at k hs bs) → one (may_come k hs bs q) + length (pairs_at k hs bs) ≡ others q (pairs_at k hs bs) + one (has_bucket k hs bs q)
    total bs q apart = go (has_bucket k hs bs q) refl
      where
        pairs : List (Name × V)
        pairs = pairs_at k hs bs

        count : length pairs + one (is_none (find name_cmp q pairs)) ≡ others q pairs + 1
        count = counted q pairs apart

        go : (h : Bool) → has_bucket k hs bs q ≡ h → one (h && is_none (find name_cmp q pairs)) + length pairs ≡ others q pairs + one h
        go true is = omega (arith, count)
        go false is =
            let none : one (is_none (find name_cmp q pairs)) ≡ 1 = ap (λ (o : Option V). one (is_none o)) (not_among bs q is) in
            omega (arith, count, none)

    coming_some : (bs : List ℕ) (q : Name) (qs : List Name) → IsIn q qs → may_come k hs bs q ≡ true → 1 ≤ coming k hs bs qs
    coming_some bs q [] among may = absurd among
    coming_some bs q (x ∷ xs) among may = ⊎_elim
        (λ (e : x ≡ q). let first : one (may_come k hs bs x) ≡ 1 = ap one (subst (λ (n : Name). may_come k hs bs n ≡ true) (sym e) may) in omega (arith, first))
        (λ h. let rest : 1 ≤ coming k hs bs xs = coming_some bs q xs h may in omega (arith, rest)) among

    -- buckets that are full have four entries each
    full_all : (q : Name) → ((b : ℕ) → IsBucketOf k.hash (power_of hs) q b → IsFull (bucket_in k hs b)) → (bs : List ℕ) → AllByRecursion (IsBucketOf k.hash (power_of hs) q) bs → 4 * length bs ≤ length (pairs_at k hs bs)
    full_all q full [] own = omega arith
    full_all q full (b ∷ bs) own =
        let here : 4 ≤ length (taken_in (bucket_in k hs b)) = full_many 4 (bucket_in k hs b) (full b own.0) in
        let rest : 4 * length bs ≤ length (pairs_at k hs bs) = full_all q full bs own.1 in
        let both : length (pairs_at k hs (b ∷ bs)) ≡ length (taken_in (bucket_in k hs b)) + length (pairs_at k hs bs) = length-append (taken_in (bucket_in k hs b)) (pairs_at k hs bs) in
        omega (arith, here, rest, both)

    -- some of the buckets of a name are buckets of it, one at least
    abbrev AreOwn : Name → List ℕ → Type 0
    AreOwn q bs = AllByRecursion (IsBucketOf k.hash (power_of hs) q) bs × (has_bucket k hs bs q ≡ true)

    own_more : (q : Name) (b : ℕ) (bs : List ℕ) → IsBucketOf k.hash (power_of hs) q b → AllByRecursion (IsBucketOf k.hash (power_of hs) q) bs → AreOwn q (b ∷ bs)
    own_more q b bs own rest =
        let first : Bool = b == index_of (power_of hs) (k.hash q) in
        let second : Bool = b == second_of (power_of hs) (k.hash q) in
        let some : ((first || second) || has_bucket k hs bs q) ≡ true = or_left (first || second) (has_bucket k hs bs q) (is_bucket_of k (power_of hs) b q own) in
        ((own, rest), sym (or_three first second (has_bucket k hs bs q)) ∙ some)

    own_some : (q : Name) (bs : List ℕ) → AreSomeOf k hs q bs → AreOwn q bs
    own_some q bs some =
        let first : ℕ = index_of (power_of hs) (k.hash q) in
        let second : ℕ = second_of (power_of hs) (k.hash q) in
        ⊎_elim
        (λ e. subst (AreOwn q) (sym e) (own_more q first [] (inl refl) tt))
        (λ r. ⊎_elim
        (λ e. subst (AreOwn q) (sym e) (own_more q second [] (inr refl) tt))
        (λ (z : (first ≢ second) × (bs ≡ first ∷ second ∷ [])). subst (AreOwn q) (sym z.1) (own_more q first (second ∷ []) (inl refl) (inr refl, tt))) r) some

  -- Where there is room for all names, each is bound or finds a free slot.
  pub room_found : (k : Layout) (hs : Stripes V) (qs : List Name) (q : Name) → Lawful k hs → HasRoomForAll k hs qs → IsIn q qs → ¬ (HasNoRoom k hs q)
  room_found k hs qs q lawful room among lacks =
      let z : (bs : List ℕ) × AreSomeOf k hs q bs × HasSlots k hs qs bs = room q among in
      let own = own_some k hs lawful q z.0 z.1 in
      let many : 4 * length z.0 ≤ length (pairs_at k hs z.0) = full_all k hs lawful q lacks.full z.0 own.0 in
      let absent : is_none (find name_cmp q (pairs_at k hs z.0)) ≡ true = ap is_none (lacked k hs lawful q z.0 (unbound_there k hs lawful q lacks.unbound)) in
      let some : 1 ≤ coming k hs z.0 qs = coming_some k hs lawful z.0 q qs among (and_from _ _ own.1 absent) in
      let few : coming k hs z.0 qs + length (pairs_at k hs z.0) ≤ 4 * length z.0 = z.2 in
      absurd (omega (arith, many, some, few))

  -- Stripes of one power, of which one call on q made the others.
  module _ (k : Layout) (hs ks : Stripes V) (lawful : Lawful k hs) (after : Lawful k ks) (power : power_of ks ≡ power_of hs) (q : Name)
      (kept : (b i : ℕ) → IsKept q (slot_at (bucket_in k hs b) i) (slot_at (bucket_in k ks b) i)) where
    own_kept : (bs : List ℕ) (p : Name) → has_bucket k ks bs p ≡ has_bucket k hs bs p
    own_kept [] p = refl
    own_kept (b ∷ bs) p = λ i. (b == index_of (power i) (k.hash p)) || (b == second_of (power i) (k.hash p)) || own_kept bs p i

    found_kept : (p : Name) → p ≢ q → (bs : List ℕ) → find name_cmp p (pairs_at k ks bs) ≡ find name_cmp p (pairs_at k hs bs)
    found_kept p ne [] = refl
    found_kept p ne (b ∷ bs) =
        find_either p (taken_in (bucket_in k ks b)) (pairs_at k ks bs)
        ∙ (λ i. option_or (find_kept p q ne (bucket_in k hs b) (bucket_in k ks b) (kept b) i) (found_kept p ne bs i))
        ∙ sym (find_either p (taken_in (bucket_in k hs b)) (pairs_at k hs bs))

    may_other : (bs : List ℕ) (p : Name) → p ≢ q → may_come k ks bs p ≡ may_come k hs bs p
    may_other bs p ne = λ i. own_kept bs p i && is_none (found_kept p ne bs i)

    all_others : (bs : List ℕ) → others q (pairs_at k ks bs) ≡ others q (pairs_at k hs bs)
    all_others [] = refl
    all_others (b ∷ bs) =
        others-append q (taken_in (bucket_in k ks b)) (pairs_at k ks bs) ∙ (λ i. others_kept q (bucket_in k hs b) (bucket_in k ks b) (kept b) i + all_others bs i)
        ∙ sym (others-append q (taken_in (bucket_in k hs b)) (pairs_at k hs bs))

    some_kept : (p : Name) (bs : List ℕ) → AreSomeOf k hs p bs → AreSomeOf k ks p bs
    some_kept p bs some = subst (λ n. some_at k n p bs) (sym power) some

    -- of buckets of one name
    module _ (p : Name) (bs : List ℕ) (some : AreSomeOf k hs p bs) where
      total_kept : one (may_come k ks bs q) + length (pairs_at k ks bs) ≡ one (may_come k hs bs q) + length (pairs_at k hs bs)
      total_kept =
          total k ks after bs q (apart_some k ks after p bs (some_kept p bs some)) ∙ (λ i. all_others bs i + one (own_kept bs q i))
          ∙ sym (total k hs lawful bs q (apart_some k hs lawful p bs some))

      coming_others : (qs : List Name) → ¬ (IsIn q qs) → coming k ks bs qs ≡ coming k hs bs qs
      coming_others [] out = refl
      coming_others (x ∷ xs) out = λ i. one (may_other bs x (λ e. out (inl e)) i) + coming_others xs (λ h. out (inr h)) i

      sum_kept : (qs : List Name) → IsIn q qs → AreDistinct qs
          → coming k ks bs qs + length (pairs_at k ks bs) ≡ coming k hs bs qs + length (pairs_at k hs bs)
      sum_kept [] among different = absurd among
      sum_kept (x ∷ xs) among different = ⊎_elim
          (λ (e : x ≡ q).
          let rest : coming k ks bs xs ≡ coming k hs bs xs = coming_others xs (λ h. different.0 (subst (λ (n : Name). IsIn n xs) (sym e) h)) in
          let first : one (may_come k ks bs x) + length (pairs_at k ks bs) ≡ one (may_come k hs bs x) + length (pairs_at k hs bs) =
          subst (λ (n : Name). one (may_come k ks bs n) + length (pairs_at k ks bs) ≡ one (may_come k hs bs n) + length (pairs_at k hs bs)) (sym e) total_kept in
          omega (arith, rest, first))
          (λ h.
          let rest : coming k ks bs xs + length (pairs_at k ks bs) ≡ coming k hs bs xs + length (pairs_at k hs bs) = sum_kept xs h different.1 in
          let first : one (may_come k ks bs x) ≡ one (may_come k hs bs x) = ap one (may_other bs x (λ f. different.0 (subst (λ (n : Name). IsIn n xs) (sym f) h))) in
          omega (arith, rest, first)) among

    room_after : (qs : List Name) → IsIn q qs → AreDistinct qs → HasRoomForAll k hs qs → HasRoomForAll k ks qs
    room_after qs among different room p h =
        let z : (bs : List ℕ) × AreSomeOf k hs p bs × HasSlots k hs qs bs = room p h in (
          z.0,
          some_kept p z.0 z.1,
          subst (λ n. n ≤ 4 * length z.0) (sym (sum_kept p z.0 z.1 qs among different)) z.2,
        )

  -- what KeepsOthers says of held stripes it says of their contents
  kept_in : (q : Name) (old new : List (StripeState V)) (t r slot : ℕ) → length new ≡ length old
      → ((i : ℕ) → i < length old → (stripe_at new i).number ≡ (stripe_at old i).number)
      → ((i : ℕ) → i < length old → IsKept q (slot_at (row_at (stripe_at old i).content.rows r) slot) (slot_at (row_at (stripe_at new i).content.rows r) slot))
      → IsKept q (slot_at (row_at (rows_of (contents_of old) t) r) slot) (slot_at (row_at (rows_of (contents_of new) t) r) slot)
  kept_in q [] [] t r slot count number each = inl refl
  kept_in q [] (u ∷ us) t r slot count number each = absurd (omega arith)
  kept_in q (x ∷ xs) [] t r slot count number each = absurd (omega arith)
  kept_in q (x ∷ xs) (u ∷ us) t r slot count number each =
      let rest = kept_in q xs us t r slot (omega arith) (λ i lt. number (suc i) (omega arith)) (λ i lt. each (suc i) (omega arith)) in
      subst (λ n. IsKept q (slot_at (row_at (cond (x.number == t) x.content.rows (rows_of (contents_of xs) t)) r) slot) (slot_at (row_at (cond (n == t) u.content.rows (rows_of (contents_of us) t)) r) slot)) (sym (number 0 (omega arith)))
      (elim (x.number == t) as (λ b. IsKept q (slot_at (row_at (cond b x.content.rows (rows_of (contents_of xs) t)) r) slot) (slot_at (row_at (cond b u.content.rows (rows_of (contents_of us) t)) r) slot)) [
        | true ↦ each 0 (omega arith)
        | false ↦ rest
      ])

  -- A call on one of the names, which keeps the slots of the others, keeps room for all.
  pub room_kept : (hash : Name → ℕ) (s max : ℕ) (old new : List (StripeState V)) (q : Name) (qs : List Name) → AreHeld s old → ChangesContents old new
      → Lawful (layout hash s max) (contents_of old) → Lawful (layout hash s max) (contents_of new) → KeepsOthers q old new → IsIn q qs → AreDistinct qs
      → HasRoomForAll (layout hash s max) (contents_of old) qs → HasRoomForAll (layout hash s max) (contents_of new) qs
  room_kept hash s max old new q qs held changes lawful after keeps among different =
      let k : Layout = layout hash s max in
      room_after k (contents_of old) (contents_of new) lawful after (power_kept old new changes) q
      (λ b slot. kept_in q old new (b % 2 ^ s) (b / 2 ^ s) slot changes.count
      (λ i lt. ap (λ (t : StripeState V). t.number) (changes.each i lt))
      (λ i lt.
      let was : (stripe_at old i).s ≡ s = held.one_s i lt in
      let is : (stripe_at new i).s ≡ s = ap (λ (t : StripeState V). t.s) (changes.each i lt) ∙ was in
      subst (λ (x : ℕ × ℕ). IsKept q (slot_at (row_at (stripe_at old i).content.rows (b / 2 ^ x.0)) slot) (slot_at (row_at (stripe_at new i).content.rows (b / 2 ^ x.1)) slot)) (λ z. (was z, is z)) (keeps i b slot)))
      qs among different
