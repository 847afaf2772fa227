-- What the reader knows of the lines behind which it stands. Only private contracts and proofs need this file.
use Rattle.std.specs.Prelude.{All, AllPairs, ◌≡◌, ℕ, ◌+◌, ◌<◌, ◌≤◌, List, [], ◌∷◌, ◌++◌, length, Option, None, true, false, if◌then◌else◌, codes, flat_map, sum_by}
use Rattle.std.specs.List.{AllZip, list_any}
use Rattle.std.specs.Str.{bytes_eq}
use Rattle.ck_model.specs.Promise.{Name}
use Rattle.ck_format.specs.declared.script.Keys.{Keys}
use Rattle.ck_format.specs.declared.script.Setting.{Setting}
use Rattle.ck_format.specs.declared.script.Command.{Command}
use Rattle.ck_format.specs.declared.script.Version.{Version}
use Rattle.ck_format.specs.Script.{Said}
use Rattle.ck_format.specs.Tokens.{tokens}
use Rattle.ck_format.specs.Lines.{IsLine}
use Rattle.ck_format.specs.Formats.{header_of, first_word, most_workers, IsSetting, AreSettings}
use Rattle.ck_format.specs.Spells.{IsCommand, lines_of}
use Rattle.ck_format.specs.FirstFault.{option_or, number_given, version_in, keys_in, workers_in, commands_in, is_worker, is_end, first_fault_behind}
use Rattle.ck_format.specs.SettingLines.{Found, given_to, keys_at, keys_of}
use Rattle.ck_format.specs.Blocks.{Blocks}
use Rattle.ck_format.specs.State.{State, Header, Setting as Settings, Block, After}

-- the number that the first of these lines which gives one gives the setting
abbrev pub number_found : Setting → List (List ℕ) → Option ℕ
number_found setting [] = None
number_found setting (line ∷ lines) = option_or (number_given setting (tokens line)) (number_found setting lines)

-- the keys that these words say there are
abbrev pub keys_given : List (List ℕ) → Option Keys
keys_given (name ∷ word ∷ []) = if bytes_eq name (codes "keys") then keys_at word else None
keys_given words = None

abbrev pub keys_found : List (List ℕ) → Option Keys
keys_found [] = None
keys_found (line ∷ lines) = option_or (keys_given (tokens line)) (keys_found lines)

-- the lines are a first line and settings, which give this
pub record AreGiven (g : Found) (lines : List (List ℕ)) : Type 0 where
  pub settings : List (List ℕ)
  pub whole : lines ≡ header_of g.version ∷ settings
  pub each : All (IsSetting g.version) settings
  pub once : AllPairs (λ line other. ¬ (first_word line ≡ first_word other)) settings
  pub numbers : (setting : Setting) → given_to g setting ≡ number_found setting settings
  pub keys : g.keys ≡ keys_found settings
  -- the same as a fault is found by it
  pub keys_are : keys_in lines ≡ keys_of g

-- the command lines say these commands
abbrev pub AreCommands : Version → Keys → List (List ℕ) → List (Command Name) → Type 0
AreCommands v keys lines cs = AllZip (λ line c. IsCommand v keys (tokens line) c) lines cs

abbrev pub block_lines : List (List ℕ) → List (List ℕ)
block_lines block = codes "worker" ∷ block

-- the lines of a script up to a line of its last block
abbrev pub lines_so_far : Version → List (List ℕ) → List (List (List ℕ)) → List (List ℕ) → List (List ℕ)
lines_so_far v settings blocks last = (header_of v ∷ settings ++ flat_map block_lines blocks) ++ block_lines last

-- the lines are those of settings and blocks, which say this
pub record AreBlocks (b : Blocks) (lines : List (List ℕ)) : Type 0 where
  pub settings : List (List ℕ)
  pub blocks : List (List (List ℕ))
  pub last : List (List ℕ)
  pub whole : lines ≡ lines_so_far b.version settings blocks last
  pub settings_are : AreSettings b.version settings b.keys b.settings
  pub whole_are : AllZip (AreCommands b.version b.keys) blocks b.whole
  pub last_are : AreCommands b.version b.keys last b.last
  pub callers : b.settings.callers ≡ length b.whole + 1
  pub many : b.settings.callers ≤ most_workers b.version
  pub count : b.commands ≡ sum_by length b.whole + length b.last
  pub few : b.commands ≤ 1000000
  -- the same as a fault is found by it
  pub version_is : version_in lines ≡ b.version
  pub keys_are : keys_in lines ≡ b.keys
  pub workers_are : workers_in lines ≡ b.settings.callers
  pub commands_are : commands_in lines ≡ b.commands
  pub begun : list_any is_worker lines ≡ true
  pub going_on : list_any is_end lines ≡ false

-- the lines are a script that says this
pub record AreScript (said : Said) (lines : List (List ℕ)) : Type 0 where
  pub version : Version
  pub settings : List (List ℕ)
  pub blocks : List (List (List ℕ))
  pub whole : lines ≡ lines_of version settings blocks
  pub settings_are : AreSettings version settings said.keys said.settings
  pub blocks_are : AllZip (AreCommands version said.keys) blocks said.workers
  pub callers : said.settings.callers ≡ length said.workers
  pub some : 1 ≤ length said.workers
  pub many : length said.workers ≤ most_workers version
  pub few : sum_by length said.workers ≤ 1000000
  pub ended : list_any is_end lines ≡ true

-- this is known behind the lines
abbrev pub IsKnown : State → List (List ℕ) → Type 0
IsKnown Header lines = lines ≡ []
IsKnown (Settings given) lines = AreGiven given lines
IsKnown (Block blocks) lines = AreBlocks blocks lines
IsKnown (After said) lines = AreScript said lines

-- lines without a fault, behind which this is known
pub record AreRead (state : State) (lines : List (List ℕ)) : Type 0 where
  pub known : IsKnown state lines
  pub each : All IsLine lines
  pub clear : (more : List (List ℕ)) → 0 < length more → first_fault_behind [] (lines ++ more) ≡ first_fault_behind lines more
