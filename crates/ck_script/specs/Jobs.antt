-- What the workers of a run are given, and what they hand back.
use Rattle.std.specs.Prelude.{◌≡◌, ℕ, ◌<◌, ◌≤◌, All, List, [], length, map, Some, vec_capacity}
use Rattle.std.specs.Global.{Vec}
use Rattle.std.specs.FinMap.{entries}
use Rattle.ck_model.specs.declared.history.Entry.{Entry}
use Rattle.ck_model.specs.declared.settings.Settings.{Settings}
use Rattle.ck_model.specs.Promise.{Name, After, IsInterleaving}
use Rattle.ck_model.specs.Numbered.{IsIn, numbers}
use Rattle.ck_model.specs.Contents.{Stripes, bindings}
use Rattle.ck_core.specs.declared.trace.LockEvent.{LockEvent}
use Rattle.ck_core.specs.Trace.{IsLegalTrace, decided_in}
use Rattle.ck_words.specs.Words.{WordsState}
use Rattle.ck_words.specs.Passes.{PassState}
use Rattle.cuckoo_map.specs.Callers.{CallerState, pass_of, IsSameCaller}
use Rattle.ck_words.specs.Closing.{IsCaller, EachSaw, EachWatched, AreContentsOf, parts_of}
use Rattle.ck_format.specs.declared.script.Keys.{Keys}
use Rattle.ck_format.specs.declared.script.Command.{Command}
use Rattle.ck_format.specs.declared.answer.Answer.{Answer}
use Rattle.ck_script.specs.declared.job.Job.{Job}
use Rattle.ck_script.specs.declared.job.Done.{Done}
use Rattle.ck_format.specs.Script.{on_names, hash_of}
use Rattle.ck_format.specs.Text.{Pairs, output_text}
use Rattle.ck_format.specs.Answers.{answers_on_names}
use Rattle.ck_script.specs.Answered.{HaveLeft}

-- The caller was in no call that left an entry, and has seen none and watched no step.
pub record IsNew (c : CallerState ℕ) : Type 0 where
  pub no_entry : c.client.mine ≡ []
  pub unseen : c.client.seen ≡ []
  pub unwatched : c.notes.watched ≡ []

module _ {K : Type 0} where
  -- The worker has made no call, and has room for all of its answers.
  pub record IsReadyJob (job : Job K) : Type 0 where
    pub new : IsNew job.handle
    pub empty : job.answers.items ≡ []
    pub room : length job.commands.items ≤ vec_capacity job.answers

  -- the job is to make these commands by this handle
  pub record IsJob (given : CallerState ℕ × Vec (Command K)) (job : Job K) : Type 0 where
    pub handle : job.handle ≡ given.0
    pub commands : job.commands ≡ given.1

  -- the answers and the handles of those who are done
  abbrev pub answers_of : List (Done K) → List (Vec (Answer (Vec (K × ℕ))))
  answers_of dones = map (λ (d : Done K). d.answers) dones

  abbrev pub handles_of : List (Done K) → List (CallerState ℕ)
  handles_of dones = map (λ (d : Done K). d.handle) dones

module _ {K : Type 0} (hash : Name → ℕ) (name : K → Name) where
  -- with this number the caller made calls, and left what these commands with their answers leave: the entries, in the steps that it has watched, with grounds in what it has seen
  abbrev pub HasMade : (by : ℕ) → List (Command K) → List (Answer (Vec (K × ℕ))) → CallerState ℕ → Type 0
  HasMade by commands answers c = HaveLeft hash c.table.settings c.client.seen c.table.settings.callers by [] c.notes.watched (map (on_names name) commands) (answers_on_names name answers) c.client.mine

  -- The worker made the calls of its job by the same handle.
  pub record HasWorked (job : Job K) (done : Done K) : Type 0 where
    pub same : IsSameCaller job.handle done.handle
    pub left : (by : ℕ) → job.handle.client.by ≡ Some by → HasMade by job.commands.items done.answers.items done.handle

-- its pass is one of its table
abbrev pub HasPass : CallerState ℕ → Type 0
HasPass c = IsCaller c.table (pass_of c)

-- The table's handles, of which each number has one.
pub record AreAllHandles (w : WordsState) (cs : List (CallerState ℕ)) : Type 0 where
  pub table : All (λ (c : CallerState ℕ). c.table ≡ w) cs
  pub all : (m : ℕ) → m < w.settings.callers → IsIn m (numbers (parts_of (map pass_of cs)))
  pub some : 1 ≤ w.settings.callers

-- The text is that of these answers and of the map after a legal history, which is an interleaving of the entries of the passes, and begins with what each has seen.
-- The history is what was decided in a legal trace, in its order, which begins with what each pass has watched. The map is what a table with these settings contains.
pub record IsTextAtEnd (keys : Keys) (set : Settings) (passes : List (PassState ℕ)) (answers : List (List (Answer Pairs))) (text : List ℕ) : Type 0 where
  pub log : List (Entry ℕ)
  pub contents : Stripes ℕ
  pub interleaving : IsInterleaving log (parts_of passes)
  pub saw : EachSaw log passes
  pub trace : List (LockEvent ℕ)
  pub legal_trace : IsLegalTrace trace
  pub decided : decided_in trace ≡ log
  pub watched : EachWatched trace passes
  pub legal : After log (bindings contents)
  pub of_table : AreContentsOf (hash_of keys) set contents
  pub text_is : text ≡ output_text keys answers (entries (bindings contents))
