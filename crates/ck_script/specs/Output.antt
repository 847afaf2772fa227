-- What a run of a script may write.
use Rattle.std.specs.Prelude.{◌≡◌, ◌≢◌, ◌⊎◌, ℕ, ◌+◌, ◌-◌, ◌^◌, min, List, [], ◌∷◌, ◌++◌, length, replicate, Some, None}
use Rattle.std.specs.FinMap.{entries}
use Rattle.ck_model.specs.declared.history.Act.TheVariants as act
use Rattle.ck_model.specs.declared.history.Call.{Call}
use Rattle.ck_model.specs.declared.history.Call.TheVariants as call
use Rattle.ck_model.specs.declared.history.Reply.{Reply}
use Rattle.ck_model.specs.declared.history.Reply.TheVariants as reply
use Rattle.ck_model.specs.declared.history.Entry.{Entry}
use Rattle.ck_model.specs.declared.history.Reason.{Reason}
use Rattle.ck_model.specs.declared.history.Reason.TheVariants as reason
use Rattle.ck_model.specs.declared.settings.Settings.{Settings}
use Rattle.ck_model.specs.Promise.{Name, After, StartsWith, subhistory, IsInterleaving}
use Rattle.ck_model.specs.Contents.{layout_of, Stripes, bindings}
use Rattle.ck_model.specs.Paths.{Grounds}
use Rattle.ck_core.specs.declared.trace.LockEvent.{LockEvent}
use Rattle.ck_core.specs.Trace.{IsLegalTrace, decided_in, steps_of, missed_in}
use Rattle.ck_words.specs.Closing.{AreContentsOf}
use Rattle.ck_format.specs.declared.script.Command.{Command}
use Rattle.ck_format.specs.declared.script.Command.TheVariants as command
use Rattle.ck_format.specs.declared.answer.Answer.{Answer}
use Rattle.ck_format.specs.declared.answer.Answer.TheVariants as answer
use Rattle.ck_format.specs.Script.{Said, hash_of}
use Rattle.ck_format.specs.Text.{Pairs, output_text}

-- The call that a command makes: a list is a session that changes nothing.
abbrev pub IsCallOf : Command Name → Call ℕ → Type 0
IsCallOf (command.Find k) c = c ≡ call.On k act.Find
IsCallOf (command.Has k) c = c ≡ call.On k act.Find
IsCallOf (command.Insert k n) c = c ≡ call.On k (act.Insert n)
IsCallOf (command.Assign k n) c = c ≡ call.On k (act.Assign n)
IsCallOf (command.Update k n) c = c ≡ call.On k (act.Update n)
IsCallOf (command.Add k n) c = c ≡ call.On k (act.Upsert n)
IsCallOf (command.Erase k) c = c ≡ call.On k act.Erase
IsCallOf command.Len c = c ≡ call.Len
IsCallOf command.List c = (pairs : Pairs) × (c ≡ call.Session pairs pairs)
IsCallOf (command.Move j k n) c = c ≡ call.ChangeTwo j k

-- some value was bound
abbrev pub WasBound : Reply ℕ → Type 0
WasBound r = (v : ℕ) × (r ≡ reply.Was (Some v))

-- n was added to the value that was bound, up to 2^64 - 1
abbrev pub WasRaised : ℕ → Reply ℕ → Type 0
WasRaised n r = (v : ℕ) × (r ≡ reply.Done v (min (v + n) (2 ^ 64 - 1)))

-- as much of n as v has, and as w can take
abbrev pub share : ℕ → ℕ → ℕ → ℕ
share n v w = min n (min v (2 ^ 64 - 1 - w))

-- so much went from the one value that was bound to the other
abbrev pub WasMoved : ℕ → Reply ℕ → Type 0
WasMoved n r = (v w : ℕ) × (r ≡ reply.DoneTwo v w (v - share n v w) (w + share n v w))

-- the command's answer tells this reply of the plain map to its call
abbrev pub Tells : Command Name → Answer Pairs → Call ℕ → Reply ℕ → Type 0
Tells (command.Find k) (answer.Value v) c r = r ≡ reply.Was (Some v)
Tells (command.Find k) answer.Absent c r = r ≡ reply.Was None
Tells (command.Has k) answer.Yes c r = WasBound r
Tells (command.Has k) answer.No c r = r ≡ reply.Was None
Tells (command.Insert k n) answer.New c r = r ≡ reply.New
Tells (command.Insert k n) answer.Old c r = r ≡ reply.Old
Tells (command.Assign k n) answer.New c r = r ≡ reply.Was None
Tells (command.Assign k n) answer.Set c r = WasBound r
Tells (command.Update k n) answer.Set c r = WasBound r
Tells (command.Update k n) answer.Absent c r = r ≡ reply.Was None
Tells (command.Add k n) answer.New c r = r ≡ reply.New
Tells (command.Add k n) answer.Set c r = WasRaised n r
Tells (command.Erase k) answer.Gone c r = WasBound r
Tells (command.Erase k) answer.Absent c r = r ≡ reply.Was None
Tells command.Len (answer.Count n) c r = r ≡ reply.Count n
Tells command.List (answer.Listed pairs) c r = (c ≡ call.Session pairs pairs) × (r ≡ reply.Closed)
Tells (command.Move j k n) answer.Set c r = WasMoved n r
Tells (command.Move j k n) answer.Absent c r = r ≡ reply.Absent
Tells command a c r = ⊥

-- the command with this answer stands for this call with this reply
abbrev pub StandsFor : Command Name → Answer Pairs → Call ℕ → Reply ℕ → Type 0
StandsFor command a c r = IsCallOf command c × Tells command a c r

-- the command may need room for its key
abbrev pub NeedsRoom : Command Name → Type 0
NeedsRoom (command.Insert k n) = Unit {0}
NeedsRoom (command.Assign k n) = Unit {0}
NeedsRoom (command.Add k n) = Unit {0}
NeedsRoom c = ⊥

-- the command may find no memory: for room, or for its list
abbrev pub TakesMemory : Command Name → Type 0
TakesMemory command.List = Unit {0}
TakesMemory c = NeedsRoom c

-- a move from a key to itself, which no script that was read has
abbrev pub MovesNothing : Command Name → Type 0
MovesNothing (command.Move j k n) = j ≡ k
MovesNothing c = ⊥

-- the answer refuses the command of one of n workers: where there are others, any may find a stripe busy
abbrev pub IsRefusal : ℕ → Command Name → Answer Pairs → Type 0
IsRefusal n c answer.Busy = (n ≢ 1) ⊎ MovesNothing c
IsRefusal n c answer.Memory = TakesMemory c
IsRefusal n c answer.Full = NeedsRoom c
IsRefusal n c answer.Load = NeedsRoom c
IsRefusal n c a = ⊥

-- these entries stand among those, in their order
abbrev pub StandAmong : List (Entry ℕ) → List (Entry ℕ) → Type 0
StandAmong [] l = Unit {0}
StandAmong (e ∷ es) [] = ⊥
StandAmong (e ∷ es) (x ∷ l) = ((e ≡ x) × StandAmong es l) ⊎ StandAmong (e ∷ es) l

-- By these steps the caller missed stripes, and its last misses, so many, were all of this one.
abbrev pub MissesOne : (turns by : ℕ) → List (LockEvent ℕ) → Type 0
MissesOne turns by steps = (t : ℕ) × (before : List ℕ) × (missed_in (steps_of by steps) ≡ replicate turns t ++ before)

-- where the answer is busy, but for a move from a key to itself, the caller missed one stripe so often
abbrev pub MissesIfBusy : (turns by : ℕ) → Command Name → Answer Pairs → List (LockEvent ℕ) → Type 0
MissesIfBusy turns by c answer.Busy steps = MovesNothing c ⊎ MissesOne turns by steps
MissesIfBusy turns by c a steps = Unit {0}

-- At a beginning of the history that has just these entries of the worker's, all stripes of a table with these settings contained what gives this reason to refuse the name.
pub record WasStuck (hash : Name → ℕ) (set : Settings) (log : List (Entry ℕ)) (by : ℕ) (done : List (Entry ℕ)) (k : Name) (why : Reason) : Type 0 where
  pub start : List (Entry ℕ)
  pub begins : StartsWith log start
  pub own : subhistory by start ≡ done
  pub contents : Stripes ℕ
  pub after : After start (bindings contents)
  pub grounds : Grounds (layout_of hash set) set.min_load contents k why

module _ (hash : Name → ℕ) (set : Settings) (log : List (Entry ℕ)) where
  -- where the answer refuses the name for want of room, it was so when just these entries of the worker's were done
  abbrev pub HasGroundsFor : ℕ → List (Entry ℕ) → Name → Answer Pairs → Type 0
  HasGroundsFor by done k answer.Memory = WasStuck hash set log by done k reason.Memory
  HasGroundsFor by done k answer.Full = WasStuck hash set log by done k reason.Full
  HasGroundsFor by done k answer.Load = WasStuck hash set log by done k reason.LoadTooLow
  HasGroundsFor by done k a = Unit {0}

  -- the same of a command that may need room for its key
  abbrev pub HasGrounds : ℕ → List (Entry ℕ) → Command Name → Answer Pairs → Type 0
  HasGrounds by done (command.Insert k n) a = HasGroundsFor by done k a
  HasGrounds by done (command.Assign k n) a = HasGroundsFor by done k a
  HasGrounds by done (command.Add k n) a = HasGroundsFor by done k a
  HasGrounds by done c a = Unit {0}

  -- The entries of the commands of one of n workers with their answers, in order, behind those that are done. Each command has a stretch of the steps on lock words. A refused one has no entry; it had grounds then, and missed a stripe if it was busy. Each other one has one, which its worker decided in its stretch.
  abbrev pub AreEntriesOf : (n by : ℕ) → (done : List (Entry ℕ)) → (steps : List (LockEvent ℕ)) → List (Command Name) → List (Answer Pairs) → List (Entry ℕ) → Type 0
  AreEntriesOf n by done steps [] [] es = es ≡ []
  AreEntriesOf n by done steps (c ∷ cs) (a ∷ answers) es =
      (own : List (LockEvent ℕ)) × (rest : List (LockEvent ℕ)) × (steps ≡ own ++ rest)
      × ((IsRefusal n c a × MissesIfBusy set.turns by c a own × HasGrounds by done c a × AreEntriesOf n by done rest cs answers es)
      ⊎ ((e : Entry ℕ) × (more : List (Entry ℕ)) × (es ≡ e ∷ more) × (e.by ≡ by) × (decided_in (steps_of by own) ≡ e ∷ []) × StandsFor c a e.call e.reply × AreEntriesOf n by (done ++ e ∷ []) rest cs answers more))
  AreEntriesOf n by done steps cs answers es = ⊥

  -- the same of each worker, of which the first has the number by
  abbrev pub ArePartsOf : (n by : ℕ) → (steps : List (LockEvent ℕ)) → List (List (Command Name)) → List (List (Answer Pairs)) → List (ℕ × List (Entry ℕ)) → Type 0
  ArePartsOf n by steps [] [] parts = parts ≡ []
  ArePartsOf n by steps (cs ∷ workers) (answers ∷ more) (part ∷ parts) = (part.0 ≡ by) × AreEntriesOf n by [] steps cs answers part.1 × ArePartsOf n (by + 1) steps workers more parts
  ArePartsOf n by steps workers answers parts = ⊥

-- The entries of the workers' commands have a legal interleaving, and the text is that of the answers and of the map after it. All is on a table with the script's settings:
-- the map is what such a table contains, and so is what refuses a command for want of room, at a moment between the worker's entries before it and those after it.
-- The steps on lock words have a legal trace. In it the entries were decided, in their order, and a worker whose command is busy missed a stripe that another held.
pub record IsOutputOf (said : Said) (out : List ℕ) : Type 0 where
  pub answers : List (List (Answer Pairs))
  pub parts : List (ℕ × List (Entry ℕ))
  pub log : List (Entry ℕ)
  pub contents : Stripes ℕ
  pub trace : List (LockEvent ℕ)
  pub entries_of : ArePartsOf (hash_of said.keys) said.settings log (length said.workers) 0 trace said.workers answers parts
  pub interleaving : IsInterleaving log parts
  pub legal_trace : IsLegalTrace trace
  pub order : StandAmong log (decided_in trace)
  pub legal : After log (bindings contents)
  pub of_table : AreContentsOf (hash_of said.keys) said.settings contents
  pub text : out ≡ output_text said.keys answers (entries (bindings contents))
