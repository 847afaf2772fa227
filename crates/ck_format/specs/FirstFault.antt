-- The first fault of an input. A line is judged by the lines before it, and each line is counted, from 1.
use Rattle.std.specs.Prelude.{◌⊎◌, ◌≡◌, ℕ, ◌+◌, List, [], ◌∷◌, ◌++◌, length, filter, Option, Some, None, Bool, ◌&&◌, ◌||◌, ◌==◌, not, nat_lt, if◌then◌else◌, codes}
use Rattle.std.specs.List.{list_any, list_all}
use Rattle.std.specs.Option.{is_some, unwrap_or}
use Rattle.std.specs.Str.{bytes_eq}
use Rattle.std.specs.Io.KnownBytes.{Consumes}
use Rattle.ck_format.specs.declared.script.Version.{Version}
use Rattle.ck_format.specs.declared.script.Version.TheVariants.{One, Two}
use Rattle.ck_format.specs.declared.script.Keys.{Keys}
use Rattle.ck_format.specs.declared.script.Keys.TheVariants.{Num, Text}
use Rattle.ck_format.specs.declared.script.Setting.{Setting}
use Rattle.ck_format.specs.declared.script.Setting.TheVariants.{S, Power, Max, Turns, Rounds, Load}
use Rattle.ck_format.specs.declared.script.What.{What}
use Rattle.ck_format.specs.declared.script.What.TheVariants as is
use Rattle.ck_format.specs.declared.script.ScriptFault.{ScriptFault}
use Rattle.ck_format.specs.Script.{fault_at}
use Rattle.ck_format.specs.Lines.{parts}
use Rattle.ck_format.specs.Tokens.{tokens, number_at, is_printed}
use Rattle.ck_format.specs.Formats.{header_of, most_workers, word_of, least_of, most_of, default_of, keys_line, first_word}

-- the first of two, where there is one
abbrev pub option_or : {A : Type 0} → Option A → Option A → Option A
option_or None other = other
option_or (Some x) other = Some x

abbrev pub is_worker : List ℕ → Bool
is_worker line = bytes_eq line (codes "worker")

abbrev pub is_end : List ℕ → Bool
is_end line = bytes_eq line (codes "end")

-- What the lines before a line say, where they have no fault.

abbrev pub version_in : List (List ℕ) → Version
version_in [] = One
version_in (header ∷ lines) = if bytes_eq header (header_of Two) then Two else One

abbrev pub keys_in : List (List ℕ) → Keys
keys_in earlier = if list_any (λ line. bytes_eq line (keys_line Text)) earlier then Text else Num

-- how many workers there are
abbrev pub workers_in : List (List ℕ) → ℕ
workers_in earlier = length (filter is_worker earlier)

-- how many command lines there are: the lines behind the first line `worker`, but for other such lines
abbrev pub commands_in : List (List ℕ) → ℕ
commands_in [] = 0
commands_in (line ∷ lines) = if is_worker line then length (filter (λ l. not (is_worker l)) lines) else commands_in lines

-- a setting of this name is given
abbrev pub is_given : List ℕ → List (List ℕ) → Bool
is_given name earlier = list_any (λ line. bytes_eq (first_word line) name) earlier

-- the number that these words give the setting
abbrev pub number_given : Setting → List (List ℕ) → Option ℕ
number_given setting (name ∷ word ∷ []) = if bytes_eq name (word_of setting) then number_at word else None
number_given setting words = None

-- the number that the setting has
abbrev pub number_in : Setting → List (List ℕ) → ℕ
number_in setting [] = default_of setting
number_in setting (line ∷ lines) = unwrap_or (number_given setting (tokens line)) (number_in setting lines)

-- there are no fewer buckets than stripes, and no more than there may be
abbrev pub do_fit : List (List ℕ) → Bool
do_fit earlier =
    not (nat_lt (number_in Power earlier) (number_in S earlier)) && not (nat_lt (number_in Max earlier) (number_in Power earlier))

-- Words.

abbrev pub is_empty : List ℕ → Bool
is_empty word = length word == 0

-- what is wrong with a word as a number
abbrev pub number_fault : List ℕ → Option What
number_fault word = if is_some (number_at word) then None else Some is.Number

-- what is wrong with a word as a key
abbrev pub key_fault : Keys → List ℕ → Option What
key_fault Num word = number_fault word
key_fault Text word =
    if list_all is_printed word then (if nat_lt 64 (length word) then Some is.TooLong else None) else Some is.Command

-- what stands behind the name of a command
pub data Operand : Type 0 where
  Key : Operand
  Number : Operand

-- what stands behind `move`
abbrev pub operands_of_move : Version → Option (List Operand)
operands_of_move One = None
operands_of_move Two = Some (Key ∷ Key ∷ Number ∷ [])

-- what stands behind this name
abbrev pub operands_of : Version → List ℕ → Option (List Operand)
operands_of v name =
    if bytes_eq name (codes "find") || bytes_eq name (codes "has") || bytes_eq name (codes "erase") then Some (Key ∷ [])
    else if bytes_eq name (codes "insert") || bytes_eq name (codes "assign") || bytes_eq name (codes "update") || bytes_eq name (codes "add") then Some (Key ∷ Number ∷ [])
    else if bytes_eq name (codes "len") || bytes_eq name (codes "list") then Some []
    else if bytes_eq name (codes "move") then operands_of_move v
    else None

-- what is wrong with a word as such an operand
abbrev pub word_fault : Keys → Operand → List ℕ → Option What
word_fault keys Key word = key_fault keys word
word_fault keys Number word = number_fault word

-- what is wrong with these words, from left to right; at last that a `move` has one key twice
abbrev pub words_fault : Keys → List Operand → List (List ℕ) → Option What
words_fault keys (p ∷ ps) (word ∷ words) = option_or (word_fault keys p word) (words_fault keys ps words)
words_fault keys ps words = None

abbrev pub twice_fault : List Operand → List (List ℕ) → Option What
twice_fault (Key ∷ Key ∷ operands) (source ∷ target ∷ words) = if bytes_eq source target then Some is.Command else None
twice_fault operands words = None

-- Lines.

-- what is wrong with the words behind a name that has these operands
abbrev pub behind_fault : Keys → Option (List Operand) → List (List ℕ) → Option What
behind_fault keys None words = Some is.Command
behind_fault keys (Some operands) words =
    if length words == length operands then option_or (words_fault keys operands words) (twice_fault operands words) else Some is.Command

-- what is wrong with the words of a command line: first its name, its spaces and how many words it has
abbrev pub tokens_fault : Version → Keys → List (List ℕ) → Option What
tokens_fault v keys [] = Some is.Command
tokens_fault v keys (name ∷ words) = if list_any is_empty words then Some is.Command else behind_fault keys (operands_of v name) words

-- what is wrong with a command line: its words, or that 1,000,000 stand before it
abbrev pub command_fault : List (List ℕ) → List ℕ → Option What
command_fault earlier line =
    option_or (tokens_fault (version_in earlier) (keys_in earlier) (tokens line))
    (if nat_lt (commands_in earlier) 1000000 then None else Some is.TooLong)

-- the setting of this name
abbrev pub setting_at : List ℕ → Option Setting
setting_at name =
    if bytes_eq name (word_of S) then Some S
    else if bytes_eq name (word_of Power) then Some Power
    else if bytes_eq name (word_of Max) then Some Max
    else if bytes_eq name (word_of Turns) then Some Turns
    else if bytes_eq name (word_of Rounds) then Some Rounds
    else if bytes_eq name (word_of Load) then Some Load
    else None

-- what is wrong with the word behind the name of a setting, which may be given already
abbrev pub setting_fault : List (List ℕ) → Option Setting → Option ℕ → Option What
setting_fault earlier None number = Some is.Command
setting_fault earlier (Some setting) None = Some is.Number
setting_fault earlier (Some setting) (Some n) =
    if is_given (word_of setting) earlier || nat_lt n (least_of setting) || nat_lt (most_of (version_in earlier) setting) n then Some is.Setting else None

-- what is wrong with a line before the first line `worker`
abbrev pub settings_fault : List (List ℕ) → List (List ℕ) → Option What
settings_fault earlier (name ∷ word ∷ []) =
    if is_empty word then Some is.Command
    else if bytes_eq name (codes "keys") then (if (bytes_eq word (codes "num") || bytes_eq word (codes "text")) && not (is_given name earlier) then None else Some is.Setting)
    else setting_fault earlier (setting_at name) (number_at word)
settings_fault earlier words = Some is.Command

-- what is wrong with a whole line behind these lines: first its length, then what stands where
unfoldable pub line_fault : List (List ℕ) → List ℕ → Option What
line_fault earlier line =
    if nat_lt 200 (length line) then Some is.TooLong
    else if length earlier == 0 then (if bytes_eq line (header_of One) || bytes_eq line (header_of Two) then None else Some is.Header)
    else if list_any is_end earlier then Some is.Command
    else if is_worker line then
    (if list_any is_worker earlier then (if nat_lt (workers_in earlier) (most_workers (version_in earlier)) then None else Some is.TooLong)
    else if do_fit earlier then None else Some is.Setting)
    else if list_any is_worker earlier then (if is_end line then None else command_fault earlier line)
    else settings_fault earlier (tokens line)

-- what is wrong with the bytes that no line feed ends, behind these lines: there may be none, behind the line `end`
unfoldable pub end_fault : List (List ℕ) → List ℕ → Option What
end_fault earlier rest =
    if nat_lt 200 (length rest) then Some is.TooLong
    else if list_any is_end earlier && length rest == 0 then None
    else Some is.Truncated

-- the fault with its line
abbrev pub placed : ℕ → Option What → Option ScriptFault
placed n None = None
placed n (Some what) = Some (fault_at n what)

-- the first fault of these parts, behind these lines
unfoldable pub first_fault_behind : List (List ℕ) → List (List ℕ) → Option ScriptFault
first_fault_behind earlier [] = None
first_fault_behind earlier (rest ∷ []) = placed (length earlier + 1) (end_fault earlier rest)
first_fault_behind earlier (line ∷ next ∷ more) =
    option_or (placed (length earlier + 1) (line_fault earlier line)) (first_fault_behind (earlier ++ line ∷ []) (next ∷ more))

-- the first fault of the bytes
abbrev pub first_fault : List ℕ → Option ScriptFault
first_fault bytes = first_fault_behind [] (parts bytes)

-- the line in which an input ends that has no fault before its end: the line in which it is truncated, or the one behind a whole script
abbrev pub EndsIn : List ℕ → ℕ → Type 0
EndsIn bytes line = (first_fault bytes ≡ Some (fault_at line is.Truncated)) ⊎ ((first_fault bytes ≡ None) × (line ≡ length (parts bytes)))

-- the bytes that a source gave have no fault before their end, and end in this line
abbrev pub IsCutIn : Option (List ℕ) → Option (List ℕ) → ℕ → Type 0
IsCutIn before now line = (bytes : List ℕ) × Consumes before now bytes × EndsIn bytes line

-- the same of some of the bytes, in front of the others
pub record StopsIn (before now : Option (List ℕ)) (line : ℕ) : Type 0 where
  pub front : List ℕ
  pub rest : List ℕ
  pub given : Consumes before now (front ++ rest)
  pub ends : EndsIn front line
