-- Scripts and their faults, as contracts see them.
use Rattle.std.specs.Prelude.{ℕ, List, [], ◌∷◌, map}
use Rattle.std.specs.Global.{Vec}
use Rattle.ck_model.specs.declared.settings.Settings.{Settings}
use Rattle.ck_model.specs.Promise.{Name}
use Rattle.ck_key.specs.Hashes.{number_hash, text_hash}
use Rattle.ck_key.specs.declared.num_key.NumKey.{NumKey}
use Rattle.ck_format.specs.declared.script.Keys.{Keys}
use Rattle.ck_format.specs.declared.script.Keys.TheVariants as keys
use Rattle.ck_format.specs.declared.script.Command.{Command}
use Rattle.ck_format.specs.declared.script.Command.TheVariants.{Find, Has, Insert, Assign, Update, Add, Erase, Len, List as Lists, Move}
use Rattle.ck_format.specs.declared.script.Work.{Work}
use Rattle.ck_format.specs.declared.script.Script.{Script}
use Rattle.ck_format.specs.declared.script.Script.TheVariants as script
use Rattle.ck_format.specs.declared.script.What.{What}
use Rattle.ck_format.specs.declared.script.What.TheVariants as is
use Rattle.ck_format.specs.declared.script.ScriptFault.{ScriptFault}

-- What a script says. Its keys are known by their names.
pub record Said : Type 0 where
  pub keys : Keys
  pub settings : Settings
  pub workers : List (List (Command Name))

-- the command on the names of its keys
abbrev pub on_names : {K : Type 0} → (K → Name) → Command K → Command Name
on_names name (Find k) = Find (name k)
on_names name (Has k) = Has (name k)
on_names name (Insert k n) = Insert (name k) n
on_names name (Assign k n) = Assign (name k) n
on_names name (Update k n) = Update (name k) n
on_names name (Add k n) = Add (name k) n
on_names name (Erase k) = Erase (name k)
on_names name Len = Len
on_names name Lists = Lists
on_names name (Move j k n) = Move (name j) (name k) n

-- the hash of the names of such keys
abbrev pub hash_of : Keys → Name → ℕ
hash_of keys.Num = number_hash
hash_of keys.Text = text_hash

-- the commands of each worker, on the names of their keys
abbrev pub workers_on_names : {K : Type 0} → (K → Name) → List (Vec (Command K)) → List (List (Command Name))
workers_on_names {K} name workers = map (λ (w : Vec (Command K)). map (on_names name) w.items) workers

abbrev pub said_in : {K : Type 0} → Keys → (K → Name) → Work K → Said
said_in keys name work = record { keys = keys; settings = work.settings; workers = workers_on_names name work.workers.items }

-- a number's name is the list of the number alone, and a word's are its bytes
abbrev pub said_of : Script → Said
said_of (script.Num work) = said_in keys.Num (λ (k : NumKey). k.0 ∷ []) work
said_of (script.Text work) = said_in keys.Text (λ (k : Name). k) work

-- what is wrong, with its line
abbrev pub fault_at : ℕ → What → ScriptFault
fault_at line what = record { line = line; what = what }

-- the fact holds of a fault of the text. Want of memory and a failed read are none: they come from outside, at any time
abbrev pub OnTextFault : What → Type 0 → Type 0
OnTextFault is.Memory P = Unit {0}
OnTextFault is.Read P = Unit {0}
OnTextFault what P = P
