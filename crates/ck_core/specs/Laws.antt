-- What is proved of the core.
use Rattle.std.specs.Prelude.{◌≡◌, ◌≢◌, ◌⊎◌, ℕ, ◌^◌, ◌<◌, ◌≤◌, List, [], ◌∷◌, ◌++◌, Some}
use mathlib.Core.Option.{some}
use lib.ListN.{get_elem?}
use Rattle.ck_model.specs.declared.history.Entry.{Entry}
use Rattle.ck_model.specs.declared.settings.Settings.{Settings}
use Rattle.ck_model.specs.Promise.{Map, Step, After, IsLegal, StartsWith, subhistory, Answered, Follows, IsInterleaving}
use Rattle.ck_model.specs.Numbered.{IsIn, numbers, Holds}
use Rattle.ck_model.specs.declared.contents.Content.{Content}
use Rattle.ck_model.specs.Contents.{Layout, Stripes, bindings, Lawful}
use Rattle.ck_model.specs.Sections.{HasAll}
use Rattle.ck_core.specs.declared.view.View.{View}
use Rattle.ck_core.specs.State.{Configuration, HistoryInvariant, owned, client_of}
use Rattle.ck_core.specs.Trace.{IsLegalTrace, decided_in, steps_of, missed_in}
use Rattle.ck_core.specs.Steps.{Label, Transition, grown, Execution, Opening}
use Rattle.ck_core.specs.Steps.Label.{Take, FindHeld, Give, Decide, GiveRest, Renew, Look, Open, Tell, Join}

module _ (V : Type 0) where
  -- Whatever callers do from an opening state on, the invariant holds after it with the history of what was decided.
  abbrev pub LawOfRuns : Type 0
  LawOfRuns = (k : Layout) (min_load : ℕ) (set : Settings) (callers p : ℕ) (s : Configuration V) (ms : List (ℕ × Label V)) (log : List (Entry V)) (s2 : Configuration V)
      → Opening k set callers p s → Execution k min_load [] s ms log s2 → HistoryInvariant k callers log s2

module _ {V : Type 0} where
  -- a step of this kind keeps the invariant
  abbrev pub Keeps : Label V → Type 0
  Keeps m = (k : Layout) (min_load callers id : ℕ) (log : List (Entry V)) (s s2 : Configuration V) → HistoryInvariant k callers log s → Transition k min_load log id m s s2 → HistoryInvariant k callers (grown log m) s2

  -- the step decides a call
  abbrev pub IsDeciding : Label V → Type 0
  IsDeciding (Decide t ks e) = Unit {0}
  IsDeciding (Take t) = ⊥
  IsDeciding (FindHeld t) = ⊥
  IsDeciding (Give t g) = ⊥
  IsDeciding (GiveRest t) = ⊥
  IsDeciding (Renew t ks g) = ⊥
  IsDeciding (Look t p) = ⊥
  IsDeciding Open = ⊥
  IsDeciding Tell = ⊥
  IsDeciding (Join other) = ⊥

  -- What was watched is a legal trace, in which the stripes that the caller missed are those that its own steps missed.
  pub record HasWatched (v : View V) : Type 0 where
    pub legal : IsLegalTrace v.watched
    pub missed : (m : ℕ) → v.by ≡ Some m → missed_in (steps_of m v.watched) ≡ missed_in v.steps

  -- what a caller's own stripes and numbers show
  pub record Shows (k : Layout) (callers : ℕ) (log : List (Entry V)) (v : View V) : Type 0 where
    pub seen : StartsWith log v.seen
    pub heard : StartsWith log v.heard
    pub legal : IsLegal log
    pub own : (m : ℕ) → v.by ≡ Some m → subhistory m log ≡ v.mine
    -- what the caller hasn't seen is by others
    pub unseen : (m : ℕ) → v.by ≡ Some m → (more : List (Entry V)) → log ≡ v.seen ++ more → subhistory m more ≡ []
    -- the only caller has seen all
    pub alone : (m : ℕ) → v.by ≡ Some m → callers ≡ 1 → v.seen ≡ log
    pub watched : HasWatched v
    -- it begins with what a caller that was met had watched
    pub heard_watched : StartsWith v.watched v.heard_watched
    -- its own steps in it are the caller's, by which it decided its entries
    pub steps : (m : ℕ) → v.by ≡ Some m → steps_of m v.watched ≡ v.steps
    pub decided : (m : ℕ) → v.by ≡ Some m → decided_in v.steps ≡ v.mine
    -- what was decided in it begins the history
    pub decided_first : StartsWith log (decided_in v.watched)
    pub lawful : Lawful k v.held
    pub inside : (t : ℕ) → IsIn t (numbers v.held) → t < 2 ^ k.s
    -- it was told no power above that of a stripe that it holds
    pub told : (t : ℕ) (c : Content V) → Holds v.held t c → (v.told ≤ c.power) × (v.heard_told ≤ c.power)
    -- it was told a power that the table may have
    pub most : v.told ≤ k.max
    -- all stripes are held: they contain what the history leaves, all of which was seen
    pub all_held : HasAll k v.held → After log (bindings v.held)
    pub all_seen : HasAll k v.held → v.seen ≡ log
    -- all numbers are kept: the history is an interleaving of their entries
    pub all_kept : ((m : ℕ) → m < callers → IsIn m (numbers (owned v))) → IsInterleaving log (owned v)
    -- and what was decided in what was watched is the history
    pub all_decided : ((m : ℕ) → m < callers → IsIn m (numbers (owned v))) → decided_in v.watched ≡ log

  -- The caller finds a stripe held: another holds it, of another number.
  pub record IsHeldByAnother (callers : ℕ) (s : Configuration V) (t : ℕ) (v : View V) : Type 0 where
    pub own : ℕ
    pub other : ℕ
    pub own_number : v.by ≡ Some own
    pub holder : (j : ℕ) × (w : View V) × (get_elem? s.views j ≡ some w) × IsIn t (numbers w.held) × (w.by ≡ Some other)
    pub apart : own ≢ other
    pub within : (own < callers) × (other < callers)

  -- A call that leaves no entry.
  pub record Unanswered (v w : View V) : Type 0 where
    pub seen : StartsWith w.seen v.seen
    pub mine : w.mine ≡ v.mine

module _ (V : Type 0) where
  -- under the invariant each view shows what it says
  abbrev pub LawOfViews : Type 0
  LawOfViews = (k : Layout) (callers : ℕ) (log : List (Entry V)) (s : Configuration V) → HistoryInvariant k callers log s → (j : ℕ) (v : View V) → get_elem? s.views j ≡ some v → Shows k callers log v

  -- under the invariant a call gets the plain map's reply at that point of the history
  abbrev pub LawOfReplies : Type 0
  LawOfReplies = (k : Layout) (min_load callers id t : ℕ) (ks : Stripes V) (e : Entry V) (log : List (Entry V)) (s s2 : Configuration V) → HistoryInvariant k callers log s → Transition k min_load log id (Decide t ks e) s s2
      → (m : Map V) × (m2 : Map V) × After log m × Step m e.call e.reply m2 × After (log ++ e ∷ []) m2

  -- under the invariant a stripe that is found held is held by another caller
  abbrev pub LawOfFindings : Type 0
  LawOfFindings = (k : Layout) (min_load callers id t : ℕ) (log : List (Entry V)) (s s2 : Configuration V) (v : View V) → HistoryInvariant k callers log s → Transition k min_load log id (FindHeld t) s s2
      → get_elem? s.views id ≡ some v → IsHeldByAnother callers s t v

  -- so that with one caller none is
  abbrev pub LawOfOneCaller : Type 0
  LawOfOneCaller = (k : Layout) (min_load id t : ℕ) (log : List (Entry V)) (s s2 : Configuration V) → HistoryInvariant k 1 log s → ¬ (Transition k min_load log id (FindHeld t) s s2)

  -- under the invariant a step that decides leaves its caller with an answered call
  abbrev pub LawOfAnswers : Type 0
  LawOfAnswers = (k : Layout) (min_load callers id t : ℕ) (ks : Stripes V) (e : Entry V) (log : List (Entry V)) (s s2 : Configuration V) (v w : View V) → HistoryInvariant k callers log s → Transition k min_load log id (Decide t ks e) s s2
      → get_elem? s.views id ≡ some v → get_elem? s2.views id ≡ some w → Answered (client_of v) e (client_of w)

  -- which follows what its caller had seen where that is the only caller, or has held all stripes
  abbrev pub LawOfFollowing : Type 0
  LawOfFollowing = (k : Layout) (min_load callers id t : ℕ) (ks : Stripes V) (e : Entry V) (log : List (Entry V)) (s s2 : Configuration V) (v w : View V) → HistoryInvariant k callers log s → Transition k min_load log id (Decide t ks e) s s2
      → get_elem? s.views id ≡ some v → get_elem? s2.views id ≡ some w → (callers ≡ 1) ⊎ HasAll k v.held → Follows (client_of v) e (client_of w)

  -- and each other step leaves its caller with no entry more
  abbrev pub LawOfOtherSteps : Type 0
  LawOfOtherSteps = (k : Layout) (min_load callers id : ℕ) (m : Label V) (log : List (Entry V)) (s s2 : Configuration V) (v w : View V) → ¬ (IsDeciding m) → HistoryInvariant k callers log s → Transition k min_load log id m s s2
      → get_elem? s.views id ≡ some v → get_elem? s2.views id ≡ some w → Unanswered v w
