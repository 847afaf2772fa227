-- What the blocks of a script hold, as the reader finds it. Only private contracts and proofs need this file.
use Rattle.std.specs.Prelude.{ℕ, ◌+◌, List, [], ◌∷◌, ◌++◌, map, Result, Ok, Err, nat_lt, if◌then◌else◌}
use Rattle.ck_model.specs.declared.settings.Settings.{Settings}
use Rattle.ck_model.specs.Promise.{Name}
use Rattle.ck_format.specs.declared.script.Version.{Version}
use Rattle.ck_format.specs.declared.script.Keys.{Keys}
use Rattle.ck_format.specs.declared.script.Command.{Command}
use Rattle.ck_format.specs.declared.script.What.{What}
use Rattle.ck_format.specs.declared.script.What.TheVariants as is
use Rattle.ck_format.specs.declared.body.Body.{Body}
use Rattle.ck_format.specs.Script.{Said, on_names, workers_on_names}
use Rattle.ck_format.specs.Formats.{most_workers}
use Rattle.ck_format.specs.Parse.{WordCommand, name_of, command_at, ◌>>=◌}

-- what was read up to a line of a block, on the names of keys
pub record Blocks : Type 0 where
  pub version : Version
  pub keys : Keys
  pub settings : Settings
  pub whole : List (List (Command Name))
  pub last : List (Command Name)
  pub commands : ℕ

-- what the reader holds
abbrev pub blocks_of : {K : Type 0} → Keys → (K → Name) → Body K → Blocks
blocks_of keys name b = record {
  version = b.version;
  keys = keys;
  settings = b.settings;
  whole = workers_on_names name b.whole.items;
  last = map (on_names name) b.last.items;
  commands = b.commands;
}

-- the first worker's block begins
abbrev pub first_block : Version → Keys → Settings → Blocks
first_block v keys set = record { version = v; keys = keys; settings = set; whole = []; last = []; commands = 0 }

-- the last block has one command more
abbrev pub with_command : Blocks → WordCommand → Blocks
with_command b c = record b { last = b.last ++ on_names (name_of b.keys) c ∷ []; commands = b.commands + 1 }

abbrev pub take_command : Blocks → List ℕ → Result Blocks What
take_command b line = command_at b.version b.keys line >>= λ c. if nat_lt b.commands 1000000 then Ok (with_command b c) else Err is.TooLong

-- the next worker's block begins
abbrev pub with_worker : Blocks → Blocks
with_worker b = record b { settings = record b.settings { callers = b.settings.callers + 1 }; whole = b.whole ++ b.last ∷ []; last = [] }

abbrev pub take_worker : Blocks → Result Blocks What
take_worker b = if nat_lt b.settings.callers (most_workers b.version) then Ok (with_worker b) else Err is.TooLong

-- what is said where the blocks end
abbrev pub said_by : Blocks → Said
said_by b = record { keys = b.keys; settings = b.settings; workers = b.whole ++ b.last ∷ [] }
