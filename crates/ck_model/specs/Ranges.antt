-- The limits of a table.
use Rattle.std.specs.Prelude.{ℕ, ◌≤◌, ◌<◌}
use Rattle.ck_model.specs.declared.settings.Settings.{Settings}
use Rattle.ck_model.specs.declared.settings.OutOfRange.{OutOfRange}
use Rattle.ck_model.specs.declared.settings.OutOfRange.TheVariants.{Stripes, Power, Max, Callers, Turns, Rounds, MinLoad}

-- each setting is in its range
pub record AreInRange (set : Settings) : Type 0 where
  pub stripes : set.s ≤ 10
  pub power : 1 ≤ set.power
  pub stripes_fit : set.s ≤ set.power
  pub growth : set.power ≤ set.max
  pub max : set.max ≤ 26
  pub caller : 1 ≤ set.callers
  pub callers : set.callers ≤ 1024
  pub turns : 1 ≤ set.turns
  pub rounds : set.rounds ≤ 64
  pub min_load : set.min_load ≤ 100

-- this setting is not in its range
abbrev pub IsOut : Settings → OutOfRange → Type 0
IsOut set Stripes = ¬ ((set.s ≤ 10) × (set.s ≤ set.power))
IsOut set Power = ¬ ((1 ≤ set.power) × (set.power ≤ set.max))
IsOut set Max = ¬ (set.max ≤ 26)
IsOut set Callers = ¬ ((1 ≤ set.callers) × (set.callers ≤ 1024))
IsOut set Turns = ¬ (1 ≤ set.turns)
IsOut set Rounds = ¬ (set.rounds ≤ 64)
IsOut set MinLoad = ¬ (set.min_load ≤ 100)

-- the settings in the order in which they are looked at
abbrev pub place_of : OutOfRange → ℕ
place_of Stripes = 0
place_of Power = 1
place_of Max = 2
place_of Callers = 3
place_of Turns = 4
place_of Rounds = 5
place_of MinLoad = 6

-- this setting is not in its range, and each before it is
pub record IsFirstOut (set : Settings) (which : OutOfRange) : Type 0 where
  pub out : IsOut set which
  pub first : (other : OutOfRange) → place_of other < place_of which → ¬ IsOut set other
