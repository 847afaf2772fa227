-- What a transfer makes of two values.
use Rattle.std.specs.Prelude.{ℕ, ◌+◌, ◌-◌, ◌^◌, min}

-- as much of the amount as the first has, and as the second has room for
abbrev pub share : ℕ → ℕ → ℕ → ℕ
share amount from to = min (min amount from) (2 ^ 64 - 1 - to)

-- it goes from the first to the second
abbrev pub moved_of : ℕ → ℕ → ℕ → ℕ × ℕ
moved_of amount from to = (from - share amount from to, to + share amount from to)
