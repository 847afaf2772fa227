-- Numbers that are counted.
use Rattle.std.specs.Prelude.{ℕ, zero, suc, List, [], ◌∷◌}

-- n numbers from a on
abbrev pub counting : ℕ → ℕ → List ℕ
counting a zero = []
counting a (suc n) = a ∷ counting (suc a) n
