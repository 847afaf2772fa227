-- The number that a word is, as it is read digit by digit, and how a number is written.
use Rattle.std.proofs.Common.{◌≡◌, ℕ, ◌+◌, ◌-◌, ◌*◌, ◌^◌, ◌<◌, ◌≤◌, Bool, true, false, ltb, eqb, List, [], ◌∷◌, length, take, get_or, Some, None, refl, sym, ap, subst, ◌∙◌, inl, inr, arith}
use Rattle.std.specs.Prelude.{◌&&◌, not}
use Rattle.std.specs.List.{list_all}
use Rattle.std.specs.Str.{all_ascii_digits}
use Rattle.std.specs.Fmt.{decimal}
use Rattle.std.specs.Char.{digit_value, is_ascii_digit}
use Rattle.std.specs.Str.Parse.{digits_value}
use Rattle.std.proofs.lemmas.Bool.{cases_Bool, lt-ltb, le-ltb, false≢true}
use Rattle.std.proofs.lemmas.Bool.Decides.{nat_tests}
use Rattle.std.proofs.lemmas.List.Folds.{list_all_at, list_all_more}
use Rattle.std.proofs.lemmas.Int.Digits.{digits_value_more}
use Rattle.std.proofs.lemmas.Str.Parse.{IsNumeralModel, numerals_by_value, tells_all_ascii_digits, digits_value-take-le}
use Rattle.std.proofs.lemmas.Fmt.{decimal-digits_value}
use Rattle.ck_format.specs.Tokens.{begins_as_number, number_at, IsNumber}

own : IsNumeralModel (λ ds. all_ascii_digits ds ≡ true) (digits_value 10)
own = numerals_by_value _ tells_all_ascii_digits

no_plus : (word : List ℕ) → begins_as_number word ≡ true → (get_or word 0 0 ≡ 43 → ⊥) × (0 < length word)
no_plus [] h = absurd (false≢true h)
no_plus (c ∷ []) h = (λ e. false≢true (sym (ap is_ascii_digit e) ∙ h), omega arith)
no_plus (c ∷ d ∷ ds) h = (λ e. false≢true (sym (ap (λ (x : ℕ). is_ascii_digit x && not (eqb x 48)) e) ∙ h), omega arith)

-- digits, and the number that they write
pub record Writes (bytes : List ℕ) (n : ℕ) : Type 0 where
  pub digits : all_ascii_digits bytes ≡ true
  pub value : n ≡ digits_value 10 bytes

pub writes_none : Writes [] 0
writes_none = record { digits = refl; value = refl }

digit_value-is : (c : ℕ) → is_ascii_digit c ≡ true → digit_value c ≡ c - 48
digit_value-is c is = grind (arith, nat_tests)

all_are : (digits : List ℕ) → all_ascii_digits digits ≡ list_all is_ascii_digit digits
all_are [] = refl
all_are (c ∷ digits) = ap (λ (b : Bool). is_ascii_digit c && b) (all_are digits)

no_digit_in : (word : List ℕ) (i : ℕ) → i < length word → is_ascii_digit (get_or word i 0) ≡ false → all_ascii_digits word ≡ false
no_digit_in word i below is = all_are word ∙ list_all_at is_ascii_digit word i 0 below is

too_great_value : (word : List ℕ) → 2 ^ 64 ≤ digits_value 10 word → number_at word ≡ None
too_great_value word large =
    let no : ltb (digits_value 10 word) (2 ^ 64) ≡ false = le-ltb (digits_value 10 word) (2 ^ 64) large in
    elim (cases_Bool (begins_as_number word && all_ascii_digits word)) [ inl h ↦ rw (h, no) refl | inr h ↦ rw h refl ]

module _ (word : List ℕ) (i : ℕ) (below : i < length word) where
  pub writes_more : (n : ℕ) → Writes (take i word) n → is_ascii_digit (get_or word i 0) ≡ true → Writes (take (i + 1) word) (n * 10 + (get_or word i 0 - 48))
  writes_more n so_far is = record {
    digits = all_are (take (i + 1) word) ∙ list_all_more is_ascii_digit word i 0 below ∙ rw (sym (all_are (take i word)) ∙ so_far.digits, is) refl;
    value = sym (digits_value_more 10 word i below ∙ (λ j. sym so_far.value j * 10 + digit_value-is (get_or word i 0) is j));
  }

  pub no_digit : is_ascii_digit (get_or word i 0) ≡ false → number_at word ≡ None
  no_digit is = rw (no_digit_in word i below is) (elim (cases_Bool (begins_as_number word)) [ inl h ↦ rw h refl | inr h ↦ rw h refl ])

  pub too_great : (n : ℕ) → Writes (take i word) n → is_ascii_digit (get_or word i 0) ≡ true → 2 ^ 64 ≤ n * 10 + (get_or word i 0 - 48) → number_at word ≡ None
  too_great n so_far is large =
      let more = (writes_more n so_far is).value in
      let most = digits_value-take-le 10 word (i + 1) (omega arith) in
      too_great_value word (omega arith)

pub writes_all : (word : List ℕ) (n : ℕ) → begins_as_number word ≡ true → Writes word n → n < 2 ^ 64 → number_at word ≡ Some n
writes_all word n begun all small = rw (begun, all.digits, sym all.value, lt-ltb n (2 ^ 64) small) refl

alone_zero : (word : List ℕ) → begins_as_number word ≡ true → get_or word 0 0 ≡ 48 → length word ≡ 1
alone_zero [] h e = absurd (false≢true h)
alone_zero (c ∷ []) h e = omega arith
alone_zero (c ∷ d ∷ ds) h e = absurd (false≢true (sym (ap (λ (x : ℕ). is_ascii_digit x && not (eqb x 48)) e) ∙ h))

-- a number is written in one way
pub written : (word : List ℕ) (n : ℕ) → IsNumber word n → decimal n ≡ word
written word n h =
    let small : digits_value 10 word < 2 ^ 64 = subst (λ (m : ℕ). m < 2 ^ 64) h.value h.fits in
    ap decimal h.value ∙ decimal-digits_value own word h.digits (no_plus word h.begins).1 (alone_zero word h.begins) small
