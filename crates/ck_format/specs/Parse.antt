-- What a command line says, as the reader finds it. Only private contracts and proofs need this file.
use Rattle.std.specs.Prelude.{◌≡◌, ℕ, List, [], ◌∷◌, Option, Some, None, Result, Ok, Err, Bool, true, false, ◌||◌, ◌&&◌, if◌then◌else◌, codes}
use Rattle.std.specs.Option.{ok_or}
use Rattle.std.specs.Str.{bytes_eq}
use Rattle.std.specs.Str.Parse.{digits_value}
use Rattle.ck_model.specs.Promise.{Name}
use Rattle.ck_format.specs.Script.{on_names}
use Rattle.ck_format.specs.declared.script.Version.{Version}
use Rattle.ck_format.specs.declared.script.Version.TheVariants.{One, Two}
use Rattle.ck_format.specs.declared.script.Keys.{Keys}
use Rattle.ck_format.specs.declared.script.Keys.TheVariants.{Num, Text}
use Rattle.ck_format.specs.declared.script.Command.{Command}
use Rattle.ck_format.specs.declared.script.Command.TheVariants.{Find, Has, Insert, Assign, Update, Add, Erase, Len, List as Lists, Move}
use Rattle.ck_format.specs.declared.script.What.{What}
use Rattle.ck_format.specs.declared.script.What.TheVariants as is
use Rattle.ck_format.specs.Tokens.{tokens, number_at}
use Rattle.ck_format.specs.FirstFault.{key_fault, is_empty}

-- the name of the key that a word is
abbrev pub name_of : Keys → List ℕ → Name
name_of Num word = digits_value 10 word ∷ []
name_of Text word = word

-- the first refusal, or what the second step gives
infixl 10 ◌>>=◌
abbrev pub ◌>>=◌ : {A B E : Type 0} → Result A E → (A → Result B E) → Result B E
(Ok x) >>= f = f x
(Err e) >>= f = Err e

-- what is wrong, or else this
abbrev pub unless : {A : Type 0} → Option What → Result A What → Result A What
unless None r = r
unless (Some what) r = Err what

-- a command on words in the places of its keys
abbrev pub WordCommand : Type 0
WordCommand = Command (List ℕ)

-- a word in the place of a number
abbrev pub number_or_fault : List ℕ → Result ℕ What
number_or_fault word = ok_or (number_at word) is.Number

-- the commands without words behind their names
abbrev pub alone_command : List ℕ → Option WordCommand
alone_command name =
    if bytes_eq name (codes "len") then Some Len
    else if bytes_eq name (codes "list") then Some Lists
    else None

-- the commands on a key, by their names
abbrev pub key_command : List ℕ → Option (List ℕ → WordCommand)
key_command name =
    if bytes_eq name (codes "find") then Some Find
    else if bytes_eq name (codes "has") then Some Has
    else if bytes_eq name (codes "erase") then Some Erase
    else None

-- the commands on a key and a number, by their names
abbrev pub pair_command : List ℕ → Option (List ℕ → ℕ → WordCommand)
pair_command name =
    if bytes_eq name (codes "insert") then Some Insert
    else if bytes_eq name (codes "assign") then Some Assign
    else if bytes_eq name (codes "update") then Some Update
    else if bytes_eq name (codes "add") then Some Add
    else None

-- the command on this key, with which this is wrong; a wrong name is told first
abbrev pub with_key : Option (List ℕ → WordCommand) → List ℕ → Option What → Result WordCommand What
with_key command key fault = do
  c ← ok_or command is.Command
  unless fault (Ok (c key))

-- the same of a key and a number
abbrev pub with_pair : Option (List ℕ → ℕ → WordCommand) → List ℕ → Result ℕ What → Result WordCommand What
with_pair command key number = do
  c ← ok_or command is.Command
  n ← number
  Ok (c key n)

-- the number behind a key; what is wrong with the key is told first
abbrev pub number_behind : Keys → List ℕ → List ℕ → Result ℕ What
number_behind keys key number = unless (key_fault keys key) (number_or_fault number)

-- the number of a `move`, in which no key stands twice
abbrev pub moved : List ℕ → List ℕ → ℕ → Result WordCommand What
moved source target n = if bytes_eq source target then Err is.Command else Ok (Move source target n)

-- a `move` of two keys and a number; what is wrong with the words is told from left to right
abbrev pub move_command : Keys → List ℕ → List ℕ → List ℕ → Result WordCommand What
move_command keys source target number = do
  n ← unless (key_fault keys source) (number_behind keys target number)
  moved source target n

abbrev pub has_moves : Version → Bool
has_moves One = false
has_moves Two = true

-- The words of a command line: first their count and that none is empty, and the name, then the words from left to right.
abbrev pub command_in : Version → Keys → List (List ℕ) → Result WordCommand What
command_in v keys (name ∷ []) = ok_or (alone_command name) is.Command
command_in v keys (name ∷ key ∷ []) =
    if is_empty key then Err is.Command else with_key (key_command name) key (key_fault keys key)
command_in v keys (name ∷ key ∷ number ∷ []) =
    if is_empty key || is_empty number then Err is.Command
    else with_pair (pair_command name) key (number_behind keys key number)
command_in v keys (name ∷ source ∷ target ∷ number ∷ []) =
    if is_empty source || is_empty target || is_empty number then Err is.Command
    else if has_moves v && bytes_eq name (codes "move") then move_command keys source target number
    else Err is.Command
command_in v keys words = Err is.Command

-- a command line
unfoldable pub command_at : Version → Keys → List ℕ → Result WordCommand What
command_at v keys line = command_in v keys (tokens line)

-- the words say a command, which is this one on the names of its keys
pub record SaysOnNames (keys : Keys) (said : Result WordCommand What) (c : Command Name) : Type 0 where
  pub words : WordCommand
  pub told : said ≡ Ok words
  pub same : c ≡ on_names (name_of keys) words
