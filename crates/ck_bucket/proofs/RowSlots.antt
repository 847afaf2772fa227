-- Lemmas on rows whose slots are written one after the other.
use Rattle.std.proofs.Common.{◌≡◌, ◌≢◌, ℕ, zero, suc, ◌+◌, ◌<◌, List, [], ◌∷◌, ◌++◌, Option, Some, None, is_some, refl, sym, ◌∙◌, ap, map, replicate, set, length, append_assoc, arith}
use mir.Val.{bool_byte}
use Rattle.std.proofs.lemmas.List.{append-nil, length-append, get_or-set_same, get_or-set_other}
use Rattle.std.specs.Option.{option_to_list}
use Rattle.ck_model.specs.Promise.{Name}
use Rattle.ck_model.specs.Slots.{Slot, slot_at, taken_in}
use Rattle.ck_model.specs.Contents.{row_at}
use Rattle.ck_bucket.specs.Rows.{with_slot_in}

module _ {V : Type 0} where
  pub four-of : (row : List (Slot V)) → length row ≡ 4 → row ≡ slot_at row 0 ∷ slot_at row 1 ∷ slot_at row 2 ∷ slot_at row 3 ∷ []
  four-of (a ∷ b ∷ c ∷ d ∷ []) four = refl
  four-of [] four = absurd (omega arith)
  four-of (a ∷ []) four = absurd (omega arith)
  four-of (a ∷ b ∷ []) four = absurd (omega arith)
  four-of (a ∷ b ∷ c ∷ []) four = absurd (omega arith)
  four-of (a ∷ b ∷ c ∷ d ∷ e ∷ row) four = absurd (omega arith)

  four-written : (row : List (Slot V)) (a b c d : Slot V) → length row ≡ 4 → set (set (set (set row 0 a) 1 b) 2 c) 3 d ≡ a ∷ b ∷ c ∷ d ∷ []
  four-written row a b c d four = rw (four-of row four) refl

  four-slots : (rows : List (List (Slot V))) (r : ℕ) (a b c d : Slot V) → length (row_at rows r) ≡ 4
      → with_slot_in (with_slot_in (with_slot_in (with_slot_in rows r 0 a) r 1 b) r 2 c) r 3 d ≡ set rows r (a ∷ b ∷ c ∷ d ∷ [])
  four-slots [] r a b c d four = refl
  four-slots (row ∷ rows) zero a b c d four = ap (λ x. x ∷ rows) (four-written row a b c d four)
  four-slots (row ∷ rows) (suc r) a b c d four = ap (λ xs. row ∷ xs) (four-slots rows r a b c d four)

  other-slot : (rows : List (List (Slot V))) (r i j : ℕ) (s : Slot V) → j ≢ i → slot_at (row_at (with_slot_in rows r i s) r) j ≡ slot_at (row_at rows r) j
  other-slot [] r i j s other = refl
  other-slot (row ∷ rows) zero i j s other = get_or-set_other row i j s None other
  other-slot (row ∷ rows) (suc r) i j s other = other-slot rows r i j s other

  pub slot-written : (rows now : List (List (Slot V))) (r i : ℕ) (o : Slot V) → r < length rows → length (row_at rows r) ≡ 4 → i < 4 → now ≡ with_slot_in rows r i o → slot_at (row_at now r) i ≡ o
  slot-written rows now r i o lt four below is =
      let inside : i < length (row_at rows r) = omega arith in
      ap (λ xs. slot_at (row_at xs r) i) is ∙ ap (λ row. slot_at row i) (get_or-set_same rows r (set (row_at rows r) i o) [] lt) ∙ get_or-set_same (row_at rows r) i o None inside

  -- slot i of two rows is written
  abbrev both : List (List (Slot V)) → ℕ → ℕ → ℕ → Slot V → Slot V → List (List (Slot V))
  both rows l h i s t = with_slot_in (with_slot_in rows l i s) h i t

  two-rows : (rows : List (List (Slot V))) (l h : ℕ) (a b c d w x y z : Slot V) → l ≢ h → length (row_at rows l) ≡ 4 → length (row_at rows h) ≡ 4
      → both (both (both (both rows l h 0 a w) l h 1 b x) l h 2 c y) l h 3 d z ≡ set (set rows l (a ∷ b ∷ c ∷ d ∷ [])) h (w ∷ x ∷ y ∷ z ∷ [])
  two-rows [] l h a b c d w x y z apart low high = refl
  two-rows (row ∷ rows) zero zero a b c d w x y z apart low high = absurd (apart refl)
  two-rows (row ∷ rows) zero (suc h) a b c d w x y z apart low high =
      ap (λ first. first ∷ with_slot_in (with_slot_in (with_slot_in (with_slot_in rows h 0 w) h 1 x) h 2 y) h 3 z) (four-written row a b c d low)
      ∙ ap (λ rest. (a ∷ b ∷ c ∷ d ∷ []) ∷ rest) (four-slots rows h w x y z high)
  two-rows (row ∷ rows) (suc l) zero a b c d w x y z apart low high =
      ap (λ first. first ∷ with_slot_in (with_slot_in (with_slot_in (with_slot_in rows l 0 a) l 1 b) l 2 c) l 3 d) (four-written row w x y z high)
      ∙ ap (λ rest. (w ∷ x ∷ y ∷ z ∷ []) ∷ rest) (four-slots rows l a b c d low)
  two-rows (row ∷ rows) (suc l) (suc h) a b c d w x y z apart low high =
      ap (λ rest. row ∷ rest) (two-rows rows l h a b c d w x y z (λ e. apart (ap suc e)) low high)

-- the slots of row r are written one after the other
pub record Rewrites {V : Type 0} (r : ℕ) (before first second third after : List (List (Slot V))) (a b c d : Slot V) : Type 0 where
  pub four : length (row_at before r) ≡ 4
  pub to_first : first ≡ with_slot_in before r 0 a
  pub to_second : second ≡ with_slot_in first r 1 b
  pub to_third : third ≡ with_slot_in second r 2 c
  pub to_after : after ≡ with_slot_in third r 3 d

pub rewrites : {V : Type 0} {r : ℕ} {before first second third after : List (List (Slot V))} {a b c d : Slot V} → length (row_at before r) ≡ 4
    → first ≡ with_slot_in before r 0 a → second ≡ with_slot_in first r 1 b → third ≡ with_slot_in second r 2 c → after ≡ with_slot_in third r 3 d → Rewrites r before first second third after a b c d
rewrites four one two three last = record { four = four; to_first = one; to_second = two; to_third = three; to_after = last }

-- they are freed
abbrev pub Clears : {V : Type 0} → ℕ → List (List (Slot V)) → List (List (Slot V)) → List (List (Slot V)) → List (List (Slot V)) → List (List (Slot V)) → Type 0
Clears r before first second third after = Rewrites r before first second third after None None None None

module _ {V : Type 0} {r : ℕ} {before first second third after : List (List (Slot V))} {a b c d : Slot V} (writes : Rewrites r before first second third after a b c d) where
  pub row-written : after ≡ set before r (a ∷ b ∷ c ∷ d ∷ [])
  row-written =
      writes.to_after
      ∙ ap (λ rows. with_slot_in rows r 3 d) (writes.to_third ∙ ap (λ rows. with_slot_in rows r 2 c) (writes.to_second ∙ ap (λ rows. with_slot_in rows r 1 b) writes.to_first))
      ∙ four-slots before r a b c d writes.four

  pub row-after : r < length before → row_at after r ≡ a ∷ b ∷ c ∷ d ∷ []
  row-after lt = ap (λ rows. row_at rows r) row-written ∙ get_or-set_same before r (a ∷ b ∷ c ∷ d ∷ []) [] lt

  pub row-alone : r < length before → after ≡ set before r (row_at after r)
  row-alone lt = row-written ∙ ap (set before r) (sym (row-after lt))

  -- each slot stays till it is written
  stays : (rows : List (List (Slot V))) {next : List (List (Slot V))} (i j : ℕ) (o : Slot V) → next ≡ with_slot_in rows r i o → j ≢ i → slot_at (row_at next r) j ≡ slot_at (row_at rows r) j
  stays rows i j o is other = ap (λ xs. slot_at (row_at xs r) j) is ∙ other-slot rows r i j o other

  pub row-met : row_at before r ≡ slot_at (row_at before r) 0 ∷ slot_at (row_at first r) 1 ∷ slot_at (row_at second r) 2 ∷ slot_at (row_at third r) 3 ∷ []
  row-met =
      let one = stays before 0 1 a writes.to_first (omega arith) in
      let two = stays first 1 2 b writes.to_second (omega arith) ∙ stays before 0 2 a writes.to_first (omega arith) in
      let three = stays second 2 3 c writes.to_third (omega arith) ∙ stays first 1 3 b writes.to_second (omega arith) ∙ stays before 0 3 a writes.to_first (omega arith) in
      rw (one, two, three) (four-of (row_at before r) writes.four)

module _ {V : Type 0} {r : ℕ} {before first second third after : List (List (Slot V))} (clears : Clears r before first second third after) where
  pub row-cleared : after ≡ set before r (replicate 4 None)
  row-cleared = row-written clears

  -- what was in the slots goes into two rows, in part to each
  pub rows-split : (rows : List (List (Slot V))) {one two three four : List (List (Slot V))} (stay rise : Slot V → Slot V) (l h : ℕ) → l ≢ h → length (row_at rows l) ≡ 4 → length (row_at rows h) ≡ 4
      → one ≡ both rows l h 0 (stay (slot_at (row_at before r) 0)) (rise (slot_at (row_at before r) 0))
      → two ≡ both one l h 1 (stay (slot_at (row_at first r) 1)) (rise (slot_at (row_at first r) 1))
      → three ≡ both two l h 2 (stay (slot_at (row_at second r) 2)) (rise (slot_at (row_at second r) 2))
      → four ≡ both three l h 3 (stay (slot_at (row_at third r) 3)) (rise (slot_at (row_at third r) 3))
      → four ≡ set (set rows l (map stay (row_at before r))) h (map rise (row_at before r))
  rows-split rows stay rise l h apart low high e f g k =
      k
      ∙ ap (λ xs. both xs l h 3 (stay (slot_at (row_at third r) 3)) (rise (slot_at (row_at third r) 3)))
      (g ∙ ap (λ xs. both xs l h 2 (stay (slot_at (row_at second r) 2)) (rise (slot_at (row_at second r) 2)))
      (f ∙ ap (λ xs. both xs l h 1 (stay (slot_at (row_at first r) 1)) (rise (slot_at (row_at first r) 1))) e))
      ∙ two-rows rows l h _ _ _ _ _ _ _ _ apart low high
      ∙ sym (ap (λ row. set (set rows l (map stay row)) h (map rise row)) (row-met clears))

pub taken-cons : {Y : Type 0} (o : Option Y) (os : List (Option Y)) → taken_in (o ∷ os) ≡ option_to_list o ++ taken_in os
taken-cons None os = refl
taken-cons (Some y) os = refl

length-taken : {Y : Type 0} (o : Option Y) (os : List (Option Y)) → length (taken_in (o ∷ os)) ≡ length (option_to_list o) + length (taken_in os)
length-taken o os = ap length (taken-cons o os) ∙ length-append (option_to_list o) (taken_in os)

flag-length : {Y : Type 0} (o : Option Y) → bool_byte (is_some o) ≡ length (option_to_list o)
flag-length None = refl
flag-length (Some y) = refl

-- the flags of four slots, added up
pub flags-counted : {Y : Type 0} (a b c d : Option Y) → bool_byte (is_some a) + bool_byte (is_some b) + bool_byte (is_some c) + bool_byte (is_some d) ≡ length (taken_in (a ∷ b ∷ c ∷ d ∷ []))
flags-counted a b c d =
    omega (arith, flag-length a, flag-length b, flag-length c, flag-length d, length-taken a (b ∷ c ∷ d ∷ []), length-taken b (c ∷ d ∷ []), length-taken c (d ∷ []), length-taken d [])

-- what is in a row's slots is pushed slot by slot
pub row-pushed : {V : Type 0} {row : List (Slot V)} (a b c d : Slot V) (start : List (Name × V)) {one two three four : List (Name × V)} → row ≡ a ∷ b ∷ c ∷ d ∷ []
    → one ≡ start ++ option_to_list a → two ≡ one ++ option_to_list b → three ≡ two ++ option_to_list c → four ≡ three ++ option_to_list d → four ≡ start ++ taken_in row
row-pushed a b c d start is e f g h =
    h ∙ ap (λ xs. xs ++ option_to_list d) (g ∙ ap (λ xs. xs ++ option_to_list c) (f ∙ ap (λ xs. xs ++ option_to_list b) e))
    ∙ simp (is, taken-cons, append_assoc, append-nil)
