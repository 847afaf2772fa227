-- One of 2^s, by its number.
use Rattle.std.specs.Prelude.{◌≡◌, ℕ, ◌%◌, ◌^◌}

module _ {T : Type 0} (number s : T → ℕ) where
  -- the same one, with whatever it contains
  abbrev pub IsSame : T → T → Type 0
  IsSame t u = (number u ≡ number t) × (s u ≡ s t)

  -- the one that has bucket b
  abbrev pub IsOneWith : ℕ → T → Type 0
  IsOneWith b t = number t ≡ b % 2 ^ s t
