-- A list that is cut at the first byte of a kind, as memchr finds it.
use Rattle.std.proofs.Common.{◌≡◌, ℕ, ◌+◌, ◌-◌, ◌<◌, Bool, false, List, [], ◌∷◌, ◌++◌, length, get_or, take, drop, Some, None, refl, sym, ap, ◌∙◌, add-one, drop-cons, arith}
use Rattle.std.specs.Prelude.{All}
use Rattle.std.specs.List.{slice_split}
use Rattle.std.proofs.lemmas.Bool.{false_from_ne_true, eq-eqb, eqb-true}
use Rattle.std.proofs.lemmas.List.{take-append-drop, length-take, get_or-take, get_or_default, take_all, length-drop}
use Rattle.std.proofs.lemmas.List.Splits.{slice_split_none, slice_split_at, length-slice_split}
use Rattle.memchr.specs.Find.{is_byte, IsFirstByte, Nowhere, Passes, NoneBefore}

-- no byte of the list is b
abbrev pub Without : ℕ → List ℕ → Type 0
Without b xs = All (λ x. is_byte b x ≡ false) xs

pub none_found : (b : ℕ) (xs : List ℕ) → Nowhere (Passes (is_byte b) xs) 0 (length xs) → Without b xs
none_found b xs h k d lt = false_from_ne_true _ (λ e. h k (omega arith) lt (sym (ap (is_byte b) (get_or_default xs k d 0 lt)) ∙ e))

pub front_without : (b : ℕ) (xs : List ℕ) (at : ℕ) → NoneBefore (Passes (is_byte b) xs) 0 (length xs) at → Without b (take at xs)
front_without b xs at h k d lt =
    let below : k < at = omega (arith, length-take at xs) in
    let inside : k < length xs = omega (arith, length-take at xs) in
    false_from_ne_true _ (λ e. h.before k (omega arith) below (sym (ap (is_byte b) (get_or-take at xs k d below ∙ get_or_default xs k d 0 inside)) ∙ e))

parts_at : (xs : List ℕ) (at : ℕ) → at < length xs → xs ≡ take at xs ++ get_or xs at 0 ∷ drop (at + 1) xs
parts_at xs at lt = sym (take-append-drop at xs) ∙ ap (λ (t : List ℕ). take at xs ++ t) (rw (add-one, drop-cons xs at 0) refl)

-- the list is the bytes before, that byte, and the rest
pub found_parts : (b : ℕ) (xs : List ℕ) (at : ℕ) → at < length xs → Passes (is_byte b) xs at → xs ≡ take at xs ++ b ∷ drop (at + 1) xs
found_parts b xs at lt h = parts_at xs at lt ∙ ap (λ (x : ℕ). take at xs ++ x ∷ drop (at + 1) xs) (eqb-true _ _ h)

pub split_whole : (b : ℕ) (xs : List ℕ) → IsFirstByte (is_byte b) xs None → slice_split (is_byte b) xs ≡ xs ∷ []
split_whole b xs h = slice_split_none (is_byte b) xs (none_found b xs h)

pub split_found : (b : ℕ) (xs : List ℕ) (at : ℕ) → IsFirstByte (is_byte b) xs (Some at) → slice_split (is_byte b) xs ≡ take at xs ∷ slice_split (is_byte b) (drop (at + 1) xs)
split_found b xs at h = ap (slice_split (is_byte b)) (found_parts b xs at h.0.high h.1) ∙ slice_split_at (is_byte b) (take at xs) b (drop (at + 1) xs) (front_without b xs at h.0) (eq-eqb b b refl)

-- a slice to the end is what is left
pub to_end : (xs : List ℕ) (i : ℕ) → take (length xs - i) (drop i xs) ≡ drop i xs
to_end xs i = take_all _ _ (omega (arith, length-drop i xs))

pub some_part : (p : ℕ → Bool) (xs : List ℕ) → 0 < length (slice_split p xs)
some_part p xs = omega (arith, length-slice_split p xs)

pub five : (a b c d e : List (List ℕ)) (w x y z : List ℕ) → a ≡ w ∷ b → b ≡ x ∷ c → c ≡ y ∷ d → d ≡ z ∷ e → 0 < length e → 4 < length a
five a b c d e w x y z first second third fourth some = omega (arith, ap length first, ap length second, ap length third, ap length fourth)
