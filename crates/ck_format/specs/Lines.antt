-- The lines of an input.
use Rattle.std.specs.Prelude.{All, ◌≡◌, false, ℕ, ◌≤◌, List, [], ◌∷◌, ◌++◌, length, Bool, ◌==◌}
use Rattle.std.specs.List.{slice_split}

abbrev pub is_feed : ℕ → Bool
is_feed b = b == 10

-- the parts of an input between its line feeds; the last one is ended by none
abbrev pub parts : List ℕ → List (List ℕ)
parts bytes = slice_split is_feed bytes

-- a line and its line feed
abbrev pub with_feed : List ℕ → List ℕ
with_feed line = line ++ 10 ∷ []

-- a line without its line feed: it has no other, and at most 200 bytes
pub record IsLine (line : List ℕ) : Type 0 where
  pub no_feed : All (λ b. is_feed b ≡ false) line
  pub short : length line ≤ 200
