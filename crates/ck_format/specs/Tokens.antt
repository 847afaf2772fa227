-- The words of a line, and what they are in their places.
use Rattle.std.specs.Prelude.{All, ◌≡◌, ℕ, ◌<◌, ◌≤◌, ◌^◌, List, [], ◌∷◌, length, Option, Some, None, Bool, true, false, ◌&&◌, ◌==◌, not, nat_lt, if◌then◌else◌}
use Rattle.std.specs.List.{slice_split}
use Rattle.std.specs.Str.{all_ascii_digits}
use Rattle.std.specs.Char.{is_ascii_digit}
use Rattle.std.specs.Str.Parse.{digits_value}
use Rattle.ck_model.specs.Promise.{Name}
use Rattle.ck_format.specs.declared.script.Keys.{Keys}
use Rattle.ck_format.specs.declared.script.Keys.TheVariants.{Num, Text}

abbrev pub is_space : ℕ → Bool
is_space b = b == 32

-- a line is cut at each space, so two spaces together have an empty word between them
abbrev pub tokens : List ℕ → List (List ℕ)
tokens line = slice_split is_space line

-- a digit comes first, and no 0 in front of another byte
abbrev pub begins_as_number : List ℕ → Bool
begins_as_number [] = false
begins_as_number (c ∷ []) = is_ascii_digit c
begins_as_number (c ∷ d ∷ ds) = is_ascii_digit c && not (c == 48)

-- the number that a word is, where it is one below 2^64
abbrev pub number_at : List ℕ → Option ℕ
number_at word = if begins_as_number word && all_ascii_digits word && nat_lt (digits_value 10 word) (2 ^ 64) then Some (digits_value 10 word) else None

-- a word is a number, in the one form that it has
pub record IsNumber (word : List ℕ) (n : ℕ) : Type 0 where
  pub begins : begins_as_number word ≡ true
  pub digits : all_ascii_digits word ≡ true
  pub value : n ≡ digits_value 10 word
  pub fits : n < 2 ^ 64

-- a byte of a text key: none that is a space or isn't printed
abbrev pub is_printed : ℕ → Bool
is_printed b = nat_lt 32 b && nat_lt b 127

-- a word is a text key: it has 1 to 64 bytes, each of which is printed
pub record IsText (word : List ℕ) : Type 0 where
  pub some : 1 ≤ length word
  pub short : length word ≤ 64
  pub printed : All (λ b. is_printed b ≡ true) word

-- a word is the key of this name
abbrev pub IsKey : Keys → List ℕ → Name → Type 0
IsKey Num word q = (n : ℕ) × IsNumber word n × (q ≡ n ∷ [])
IsKey Text word q = IsText word × (q ≡ word)
