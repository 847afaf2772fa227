-- What the lines of settings give, as the reader finds it. Only private contracts and proofs need this file.
use Rattle.std.specs.Prelude.{ℕ, ◌+◌, List, [], ◌∷◌, Option, Some, None, Result, Ok, Err, Bool, ◌&&◌, ◌||◌, not, nat_lt, if◌then◌else◌, codes}
use Rattle.std.specs.Option.{is_some, unwrap_or}
use Rattle.std.specs.Str.{bytes_eq}
use Rattle.ck_model.specs.declared.settings.Settings.{Settings}
use Rattle.ck_format.specs.declared.script.Version.{Version}
use Rattle.ck_format.specs.declared.script.Keys.{Keys}
use Rattle.ck_format.specs.declared.script.Keys.TheVariants.{Num, Text}
use Rattle.ck_format.specs.declared.script.Setting.{Setting}
use Rattle.ck_format.specs.declared.script.Setting.TheVariants.{S, Power, Max, Turns, Rounds, Load}
use Rattle.ck_format.specs.declared.script.What.{What}
use Rattle.ck_format.specs.declared.script.What.TheVariants as is
use Rattle.ck_format.specs.declared.given.Given.{Given}
use Rattle.ck_format.specs.Tokens.{number_at}
use Rattle.ck_format.specs.Formats.{least_of, most_of, default_of}
use Rattle.ck_format.specs.FirstFault.{is_empty, setting_at}

-- what is given, without the proof that each number is in its range
pub record Found : Type 0 where
  pub version : Version
  pub keys : Option Keys
  pub s : Option ℕ
  pub power : Option ℕ
  pub max : Option ℕ
  pub turns : Option ℕ
  pub rounds : Option ℕ
  pub load : Option ℕ

abbrev pub found_of : Given → Found
found_of g = record { version = g.version; keys = g.keys; s = g.s; power = g.power; max = g.max; turns = g.turns; rounds = g.rounds; load = g.load }

-- nothing is given yet
abbrev pub none_given : Version → Found
none_given v = record { version = v; keys = None; s = None; power = None; max = None; turns = None; rounds = None; load = None }

-- the number that is given to a setting
abbrev pub given_to : Found → Setting → Option ℕ
given_to g S = g.s
given_to g Power = g.power
given_to g Max = g.max
given_to g Turns = g.turns
given_to g Rounds = g.rounds
given_to g Load = g.load

-- the number that a setting has
abbrev pub value_of : Found → Setting → ℕ
value_of g setting = unwrap_or (given_to g setting) (default_of setting)

-- this number is given to the setting
abbrev pub with_number : Found → Setting → ℕ → Found
with_number g S n = record g { s = Some n }
with_number g Power n = record g { power = Some n }
with_number g Max n = record g { max = Some n }
with_number g Turns n = record g { turns = Some n }
with_number g Rounds n = record g { rounds = Some n }
with_number g Load n = record g { load = Some n }

abbrev pub with_keys : Found → Keys → Found
with_keys g keys = record g { keys = Some keys }

-- a number for a setting: there must be one, the first for it, and in its range
abbrev pub take_number : Found → Setting → Option ℕ → Result Found What
take_number g setting None = Err is.Number
take_number g setting (Some n) =
    if is_some (given_to g setting) || nat_lt n (least_of setting) || nat_lt (most_of g.version setting) n then Err is.Setting
    else Ok (with_number g setting n)

abbrev pub take_setting : Found → Option Setting → Option ℕ → Result Found What
take_setting g None number = Err is.Command
take_setting g (Some setting) number = take_number g setting number

-- the keys of this name
abbrev pub keys_at : List ℕ → Option Keys
keys_at word =
    if bytes_eq word (codes "num") then Some Num
    else if bytes_eq word (codes "text") then Some Text
    else None

abbrev pub take_keys : Found → Option Keys → Result Found What
take_keys g None = Err is.Setting
take_keys g (Some keys) = if is_some g.keys then Err is.Setting else Ok (with_keys g keys)

-- what is given behind a line of these words
abbrev pub take_words : Found → List (List ℕ) → Result Found What
take_words g (name ∷ word ∷ []) =
    if is_empty word then Err is.Command
    else if bytes_eq name (codes "keys") then take_keys g (keys_at word)
    else take_setting g (setting_at name) (number_at word)
take_words g words = Err is.Command

-- the power is one for these stripes, and may be grown to
abbrev pub do_given_fit : Found → Bool
do_given_fit g = not (nat_lt (value_of g Power) (value_of g S)) && not (nat_lt (value_of g Max) (value_of g Power))

-- the settings, for so many callers
abbrev pub settings_of : Found → ℕ → Settings
settings_of g callers = record {
  s = value_of g S;
  power = value_of g Power;
  max = value_of g Max;
  callers = callers;
  turns = value_of g Turns;
  rounds = value_of g Rounds;
  min_load = value_of g Load;
}

-- which keys there are
abbrev pub keys_of : Found → Keys
keys_of g = unwrap_or g.keys Num

-- how much is given
abbrev pub one_if_some : {A : Type 0} → Option A → ℕ
one_if_some None = 0
one_if_some (Some x) = 1

abbrev pub count_of : Found → ℕ
count_of g = one_if_some g.keys + one_if_some g.s + one_if_some g.power + one_if_some g.max + one_if_some g.turns + one_if_some g.rounds + one_if_some g.load
