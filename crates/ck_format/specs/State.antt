-- Where the reader stands. Only private contracts and proofs need this file.
use Rattle.std.specs.Prelude.{ℕ, ◌+◌, ◌≤◌, List, [], ◌∷◌, Result, Ok, Err, Bool, true, false, if◌then◌else◌}
use Rattle.std.specs.Str.{bytes_eq}
use Rattle.ck_model.specs.Promise.{Name}
use Rattle.ck_key.specs.declared.num_key.NumKey.{NumKey}
use Rattle.ck_format.specs.declared.script.Version.TheVariants.{One, Two}
use Rattle.ck_format.specs.declared.script.Keys.TheVariants as keys
use Rattle.ck_format.specs.declared.script.What.{What}
use Rattle.ck_format.specs.declared.script.What.TheVariants as is
use Rattle.ck_format.specs.declared.stage.Stage.{Stage}
use Rattle.ck_format.specs.declared.stage.Stage.TheVariants as stage
use Rattle.ck_format.specs.Script.{Said, said_of}
use Rattle.ck_format.specs.Tokens.{tokens}
use Rattle.ck_format.specs.Formats.{header_of}
use Rattle.ck_format.specs.FirstFault.{is_worker, is_end}
use Rattle.ck_format.specs.Parse.{◌>>=◌}
use Rattle.ck_format.specs.SettingLines.{Found, found_of, none_given, take_words, do_given_fit, settings_of, keys_of, count_of}
use Rattle.ck_format.specs.Blocks.{Blocks, blocks_of, first_block, take_command, take_worker, said_by}

-- what is known where a line begins
pub data State : Type 0 where
  Header : State
  Setting : Found → State
  Block : Blocks → State
  After : Said → State

abbrev pub parse_state : Stage → State
parse_state stage.Header = Header
parse_state (stage.Settings given) = Setting (found_of given)
parse_state (stage.Num body) = Block (blocks_of keys.Num (λ (k : NumKey). k.0 ∷ []) body)
parse_state (stage.Text body) = Block (blocks_of keys.Text (λ (k : Name). k) body)
parse_state (stage.After script) = After (said_of script)

-- behind the first line
abbrev pub header_step : List ℕ → Result State What
header_step line =
    if bytes_eq line (header_of One) then Ok (Setting (none_given One))
    else if bytes_eq line (header_of Two) then Ok (Setting (none_given Two))
    else Err is.Header

-- behind the first line `worker`
abbrev pub first_worker : Found → Result State What
first_worker g = if do_given_fit g then Ok (Block (first_block g.version (keys_of g) (settings_of g 1))) else Err is.Setting

abbrev pub setting_step : Found → List ℕ → Result State What
setting_step g line = if is_worker line then first_worker g else (take_words g (tokens line) >>= λ h. Ok (Setting h))

abbrev pub block_step : Blocks → List ℕ → Result State What
block_step b line =
    if is_worker line then (take_worker b >>= λ c. Ok (Block c))
    else if is_end line then Ok (After (said_by b))
    else (take_command b line >>= λ c. Ok (Block c))

-- what is known behind a line, or what is wrong with it
abbrev pub step : State → List ℕ → Result State What
step Header line = header_step line
step (Setting g) line = setting_step g line
step (Block b) line = block_step b line
step (After said) line = Err is.Command

-- the most lines that may be read up to here, and the line that begins
abbrev pub lines_to : State → ℕ
lines_to Header = 1
lines_to (Setting g) = 2 + count_of g
lines_to (Block b) = 9 + b.settings.callers + b.commands
lines_to (After said) = 1001034

-- the workers and the commands are not too many
abbrev pub AreFew : State → Type 0
AreFew Header = Unit {0}
AreFew (Setting g) = Unit {0}
AreFew (Block b) = (b.settings.callers ≤ 1024) × (b.commands ≤ 1000000)
AreFew (After said) = Unit {0}

-- the script is whole
abbrev pub has_ended : State → Bool
has_ended (After said) = true
has_ended s = false
