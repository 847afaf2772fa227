-- The two formats of scripts, and the settings of both.
use Rattle.std.specs.Prelude.{◌≡◌, ◌⊎◌, ℕ, ◌≤◌, List, [], ◌∷◌, All, Any, AllPairs, codes}
use Rattle.ck_model.specs.declared.settings.Settings.{Settings}
use Rattle.ck_format.specs.declared.script.Version.{Version}
use Rattle.ck_format.specs.declared.script.Version.TheVariants.{One, Two}
use Rattle.ck_format.specs.declared.script.Keys.{Keys}
use Rattle.ck_format.specs.declared.script.Keys.TheVariants.{Num, Text}
use Rattle.ck_format.specs.declared.script.Setting.{Setting}
use Rattle.ck_format.specs.declared.script.Setting.TheVariants.{S, Power, Max, Turns, Rounds, Load}
use Rattle.ck_format.specs.Tokens.{tokens, IsNumber}

-- the first line
abbrev pub header_of : Version → List ℕ
header_of One = codes "cuckoo 1"
header_of Two = codes "cuckoo 2"

-- how many workers there may be
abbrev pub most_workers : Version → ℕ
most_workers One = 256
most_workers Two = 1024

-- how great the power may be
abbrev pub most_power : Version → ℕ
most_power One = 24
most_power Two = 26

-- a setting's name
abbrev pub word_of : Setting → List ℕ
word_of S = codes "s"
word_of Power = codes "power"
word_of Max = codes "max"
word_of Turns = codes "turns"
word_of Rounds = codes "rounds"
word_of Load = codes "load"

-- the least and the greatest number of a setting, and the one that it has where it isn't given
abbrev pub least_of : Setting → ℕ
least_of S = 0
least_of Power = 1
least_of Max = 1
least_of Turns = 1
least_of Rounds = 0
least_of Load = 0

abbrev pub most_of : Version → Setting → ℕ
most_of v S = 10
most_of v Power = most_power v
most_of v Max = most_power v
most_of v Turns = 4294967295
most_of v Rounds = 64
most_of v Load = 100

abbrev pub default_of : Setting → ℕ
default_of S = 1
default_of Power = 2
default_of Max = 20
default_of Turns = 1000000000
default_of Rounds = 4
default_of Load = 5

-- the line that says which keys the script has
abbrev pub keys_line : Keys → List ℕ
keys_line Num = codes "keys num"
keys_line Text = codes "keys text"

-- the line gives this setting this number
abbrev pub Gives : Setting → ℕ → List ℕ → Type 0
Gives setting n line = (word : List ℕ) × (tokens line ≡ word_of setting ∷ word ∷ []) × IsNumber word n

-- the line gives a setting a number in its range, or says which keys there are
abbrev pub IsSetting : Version → List ℕ → Type 0
IsSetting v line =
    ((keys : Keys) × (line ≡ keys_line keys))
    ⊎ ((setting : Setting) × (n : ℕ) × Gives setting n line × (least_of setting ≤ n) × (n ≤ most_of v setting))

-- the first word of a line
abbrev pub first_of : List (List ℕ) → List ℕ
first_of [] = []
first_of (word ∷ words) = word

abbrev pub first_word : List ℕ → List ℕ
first_word line = first_of (tokens line)

-- the lines set this setting to this number: one of them gives it, or none does and it is the default
abbrev pub IsSetTo : List (List ℕ) → Setting → ℕ → Type 0
IsSetTo lines setting n =
    Any (Gives setting n) lines
    ⊎ (All (λ line. ¬ (first_word line ≡ word_of setting)) lines × (n ≡ default_of setting))

-- the lines say that the keys are these, or nothing, and they are numbers
abbrev pub AreKeys : List (List ℕ) → Keys → Type 0
AreKeys lines keys =
    Any (λ line. line ≡ keys_line keys) lines
    ⊎ (All (λ line. ¬ (first_word line ≡ codes "keys")) lines × (keys ≡ Num))

-- The lines are settings, each at most once, and give these keys and these settings, which fit together.
pub record AreSettings (v : Version) (lines : List (List ℕ)) (keys : Keys) (set : Settings) : Type 0 where
  pub each : All (IsSetting v) lines
  pub once : AllPairs (λ line other. ¬ (first_word line ≡ first_word other)) lines
  pub keys_are : AreKeys lines keys
  pub s : IsSetTo lines S set.s
  pub power : IsSetTo lines Power set.power
  pub max : IsSetTo lines Max set.max
  pub turns : IsSetTo lines Turns set.turns
  pub rounds : IsSetTo lines Rounds set.rounds
  pub load : IsSetTo lines Load set.min_load
  pub stripes_fit : set.s ≤ set.power
  pub growth : set.power ≤ set.max
