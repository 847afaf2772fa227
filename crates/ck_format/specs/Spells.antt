-- The grammar of scripts: a script is a list of lines, each ended by a line feed.
use Rattle.std.specs.Prelude.{All, length, ◌≤◌, ◌≡◌, ◌≢◌, ℕ, List, [], ◌∷◌, ◌++◌, codes, flat_map, sum_by}
use Rattle.std.specs.List.{AllZip}
use Rattle.ck_model.specs.Promise.{Name}
use Rattle.ck_format.specs.declared.script.Version.{Version}
use Rattle.ck_format.specs.declared.script.Version.TheVariants.{Two}
use Rattle.ck_format.specs.declared.script.Keys.{Keys}
use Rattle.ck_format.specs.declared.script.Command.{Command}
use Rattle.ck_format.specs.declared.script.Command.TheVariants.{Find, Has, Insert, Assign, Update, Add, Erase, Len, List as Lists, Move}
use Rattle.ck_format.specs.Script.{Said}
use Rattle.ck_format.specs.Lines.{IsLine, with_feed}
use Rattle.ck_format.specs.Tokens.{tokens, IsNumber, IsKey}
use Rattle.ck_format.specs.Formats.{header_of, most_workers, AreSettings}

-- the words are this name and a key
abbrev pub AreNameAndKey : Keys → List ℕ → List (List ℕ) → Name → Type 0
AreNameAndKey keys name ws k = (key : List ℕ) × (ws ≡ name ∷ key ∷ []) × IsKey keys key k

-- the words are this name, a key and a number
abbrev pub AreNameAndPair : Keys → List ℕ → List (List ℕ) → Name → ℕ → Type 0
AreNameAndPair keys name ws k n =
    (key number : List ℕ) × (ws ≡ name ∷ key ∷ number ∷ []) × IsKey keys key k × IsNumber number n

-- the words are `move`, two different keys and a number
abbrev pub AreMoveAndTwo : Keys → List (List ℕ) → Name → Name → ℕ → Type 0
AreMoveAndTwo keys ws j k n =
    (source target number : List ℕ) × (ws ≡ codes "move" ∷ source ∷ target ∷ number ∷ [])
    × IsKey keys source j × IsKey keys target k × (j ≢ k) × IsNumber number n

-- the words of a line are this command
abbrev pub IsCommand : Version → Keys → List (List ℕ) → Command Name → Type 0
IsCommand v keys ws (Find k) = AreNameAndKey keys (codes "find") ws k
IsCommand v keys ws (Has k) = AreNameAndKey keys (codes "has") ws k
IsCommand v keys ws (Insert k n) = AreNameAndPair keys (codes "insert") ws k n
IsCommand v keys ws (Assign k n) = AreNameAndPair keys (codes "assign") ws k n
IsCommand v keys ws (Update k n) = AreNameAndPair keys (codes "update") ws k n
IsCommand v keys ws (Add k n) = AreNameAndPair keys (codes "add") ws k n
IsCommand v keys ws (Erase k) = AreNameAndKey keys (codes "erase") ws k
IsCommand v keys ws Len = ws ≡ codes "len" ∷ []
IsCommand v keys ws Lists = ws ≡ codes "list" ∷ []
IsCommand v keys ws (Move j k n) = (v ≡ Two) × AreMoveAndTwo keys ws j k n

-- the lines of a script of these settings, and of a block of command lines for each worker
abbrev pub lines_of : Version → List (List ℕ) → List (List (List ℕ)) → List (List ℕ)
lines_of v settings blocks =
    header_of v ∷ settings ++ flat_map (λ (block : List (List ℕ)). codes "worker" ∷ block) blocks ++ codes "end" ∷ []

-- The bytes are a script that says this.
pub record Spells (bytes : List ℕ) (said : Said) : Type 0 where
  pub version : Version
  pub settings : List (List ℕ)
  pub blocks : List (List (List ℕ))
  pub whole : bytes ≡ flat_map with_feed (lines_of version settings blocks)
  pub each : All IsLine (lines_of version settings blocks)
  pub settings_are : AreSettings version settings said.keys said.settings
  pub blocks_are : AllZip (AllZip (λ line c. IsCommand version said.keys (tokens line) c)) blocks said.workers
  pub callers : said.settings.callers ≡ length said.workers
  pub some : 1 ≤ length said.workers
  pub many : length said.workers ≤ most_workers version
  pub few : sum_by length said.workers ≤ 1000000
