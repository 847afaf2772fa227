-- What commands leave of their caller, and what the workers of a run are given and hand back. What a run promises stands in `Output`.
use Rattle.std.specs.Prelude.{◌≡◌, ◌≢◌, ◌⊎◌, ℕ, List, [], ◌∷◌, ◌++◌, Some}
use Rattle.ck_model.specs.declared.history.Call.TheVariants.{Session}
use Rattle.ck_model.specs.declared.history.Reply.TheVariants.{Closed}
use Rattle.ck_model.specs.declared.history.Entry.{Entry}
use Rattle.ck_model.specs.declared.settings.Settings.{Settings}
use Rattle.ck_model.specs.Promise.{Name, Client, StartsWith, subhistory}
use Rattle.ck_core.specs.declared.trace.LockEvent.{LockEvent}
use Rattle.ck_core.specs.Trace.{decided_in, steps_of}
use Rattle.ck_words.specs.Retries.{WatchesMore, FindsLast}
use Rattle.cuckoo_map.specs.Callers.{CallerState, pass_of, IsSameCaller}
use Rattle.cuckoo_map.specs.Refusals.{HasNoted}
use Rattle.ck_refusal.specs.declared.refusal.Why.{Why}
use Rattle.ck_refusal.specs.declared.refusal.Why.TheVariants.{Busy, Full, LoadTooLow}
use Rattle.ck_refusal.specs.declared.refusal.Why.TheVariants as why
use Rattle.ck_model.specs.declared.history.Reason.{Reason}
use Rattle.ck_model.specs.declared.history.Reason.TheVariants as reason
use Rattle.ck_format.specs.declared.script.Command.TheVariants as command
use Rattle.ck_format.specs.declared.answer.Answer.TheVariants as answer
use Rattle.ck_format.specs.declared.script.Command.{Command}
use Rattle.ck_format.specs.declared.answer.Answer.{Answer}
use Rattle.ck_format.specs.declared.answer.Answer.TheVariants.{Listed, Memory}
use Rattle.ck_format.specs.Text.{Pairs}
use Rattle.ck_script.specs.Output.{StandsFor, IsRefusal, MovesNothing, MissesIfBusy, HasGrounds}

-- the entry of a session that changed nothing
pub record IsIdleSession (e : Entry ℕ) : Type 0 where
  pub pairs : Pairs
  pub call : e.call ≡ Session pairs pairs
  pub reply : e.reply ≡ Closed

-- the answer lists these pairs, or there is no memory for the list
abbrev pub IsListOf : Pairs → Answer Pairs → Type 0
IsListOf pairs a = (a ≡ Listed pairs) ⊎ (a ≡ Memory)

-- the answer that prints why a call was refused
abbrev pub printed : Why → Answer Pairs
printed (Busy t) = answer.Busy
printed why.Memory = answer.Memory
printed Full = answer.Full
printed LoadTooLow = answer.Load

-- from p to q the caller has noted for this reason that the name found no room
abbrev pub HasSaid : Name → Reason → CallerState ℕ → CallerState ℕ → Type 0
HasSaid k why p q = HasNoted k why (pass_of p) (pass_of q)

-- where the answer prints a want of room, the caller has noted so of the name, for this reason
abbrev pub PrintsWhy : Name → Answer Pairs → CallerState ℕ → CallerState ℕ → Type 0
PrintsWhy k answer.Memory p q = HasSaid k reason.Memory p q
PrintsWhy k answer.Full p q = HasSaid k reason.Full p q
PrintsWhy k answer.Load p q = HasSaid k reason.LoadTooLow p q
PrintsWhy k a p q = Unit {0}

-- the same of a command that may need room for its key
abbrev pub CommandPrintsWhy : Command Name → Answer Pairs → CallerState ℕ → CallerState ℕ → Type 0
CommandPrintsWhy (command.Insert k n) a p q = PrintsWhy k a p q
CommandPrintsWhy (command.Assign k n) a p q = PrintsWhy k a p q
CommandPrintsWhy (command.Add k n) a p q = PrintsWhy k a p q
CommandPrintsWhy c a p q = Unit {0}

-- where a call was refused for this reason by a table of n callers, there are others if it was as busy
abbrev pub HasOthers : ℕ → Why → Type 0
HasOthers n (Busy t) = n ≢ 1
HasOthers n why = Unit {0}

-- the entry is that of the command with the answer, or of a session that changed nothing, where the command is refused
abbrev pub IsLeft : ℕ → Command Name → Answer Pairs → Entry ℕ → Type 0
IsLeft n c a e = StandsFor c a e.call e.reply ⊎ (IsRefusal n c a × IsIdleSession e)

-- the command is refused and its caller's entries stay, or they grow by one
abbrev pub StaysOrGrows : (n by : ℕ) → Command Name → Answer Pairs → List (Entry ℕ) → List (Entry ℕ) → Type 0
StaysOrGrows n by c a old new =
    (IsRefusal n c a × (new ≡ old))
    ⊎ ((e : Entry ℕ) × (e.by ≡ by) × IsLeft n c a e × (new ≡ old ++ e ∷ []))

-- what the client has seen more is of others, or of others and then its own one entry more
abbrev pub SeesMore : ℕ → Client ℕ → Client ℕ → Type 0
SeesMore by c d =
    ((others : List (Entry ℕ)) × (d.seen ≡ c.seen ++ others) × (subhistory by others ≡ []) × (d.mine ≡ c.mine))
    ⊎ ((others : List (Entry ℕ)) × (e : Entry ℕ) × (d.seen ≡ c.seen ++ others ++ e ∷ []) × (subhistory e.by others ≡ []) × (e.by ≡ by) × (d.mine ≡ c.mine ++ e ∷ []))

-- where the answer is busy, but for a move from a key to itself, the caller's last tries, so many, all found one stripe held
abbrev pub TriesIfBusy : (turns : ℕ) → Command Name → Answer Pairs → CallerState ℕ → CallerState ℕ → Type 0
TriesIfBusy turns c answer.Busy p q = MovesNothing c ⊎ ((t : ℕ) × FindsLast turns t (pass_of p) (pass_of q))
TriesIfBusy turns c a p q = Unit {0}

-- The caller's command was answered by this answer. If the caller had seen all of its own entries, a refusal for want of room has grounds when just these are done.
pub record IsAnsweredBy (hash : Name → ℕ) (c : Command Name) (a : Answer Pairs) (p q : CallerState ℕ) : Type 0 where
  pub same : IsSameCaller p q
  pub why : CommandPrintsWhy c a p q
  pub watched : WatchesMore (pass_of p).view (pass_of q).view
  pub busy : TriesIfBusy p.table.settings.turns c a p q
  pub saw : StartsWith q.client.seen p.client.seen
  pub own : (by : ℕ) → p.client.by ≡ Some by → SeesMore by p.client q.client
  pub grounds : (by : ℕ) → p.client.by ≡ Some by → subhistory by p.client.seen ≡ p.client.mine → HasGrounds hash p.table.settings q.client.seen by p.client.mine c a
  pub entries : (by : ℕ) → p.client.by ≡ Some by → StaysOrGrows p.table.settings.callers by c a p.client.mine q.client.mine

module _ (hash : Name → ℕ) (set : Settings) (log : List (Entry ℕ)) where
  -- The entries that a caller's commands with their answers left, in order, behind those that are done: one or none of a refused command, and one of each other, which the caller decided in the command's stretch of its steps. What was refused for want of room had grounds then, and what was busy missed a stripe.
  abbrev pub HaveLeft : (n by : ℕ) → (done : List (Entry ℕ)) → (steps : List (LockEvent ℕ)) → List (Command Name) → List (Answer Pairs) → List (Entry ℕ) → Type 0
  HaveLeft n by done steps [] [] es = (steps ≡ []) × (es ≡ [])
  HaveLeft n by done steps (c ∷ cs) (a ∷ answers) es =
      (own : List (LockEvent ℕ)) × (rest : List (LockEvent ℕ)) × (steps ≡ own ++ rest) × MissesIfBusy set.turns by c a own × HasGrounds hash set log by done c a
      × ((IsRefusal n c a × HaveLeft n by done rest cs answers es)
      ⊎ ((e : Entry ℕ) × (more : List (Entry ℕ)) × (es ≡ e ∷ more) × (e.by ≡ by) × (decided_in (steps_of by own) ≡ e ∷ []) × IsLeft n c a e × HaveLeft n by (done ++ e ∷ []) rest cs answers more))
  HaveLeft n by done steps cs answers es = ⊥
