-- The ranges of what the lines of settings give. Only private contracts and proofs need this file.
use Rattle.std.specs.Prelude.{ℕ, ◌≤◌, Option}
use Rattle.std.specs.Option.{unwrap_or}

-- each number that is given is in its range
pub record AreGivenInRange (s power max turns rounds load : Option ℕ) : Type 0 where
  pub stripes : unwrap_or s 1 ≤ 10
  pub some : 1 ≤ unwrap_or power 2
  pub most : unwrap_or max 20 ≤ 26
  pub some_turns : 1 ≤ unwrap_or turns 1000000000
  pub few_rounds : unwrap_or rounds 4 ≤ 64
  pub least_load : unwrap_or load 5 ≤ 100
