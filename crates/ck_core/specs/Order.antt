-- One history for all, and the order in time of the calls of a run.
use Rattle.std.specs.Prelude.{◌≡◌, ◌⊎◌, ℕ, ◌<◌, List, [], ◌∷◌, ◌++◌, Some}
use mathlib.Core.Option.{some}
use lib.ListN.{get_elem?}
use Rattle.ck_model.specs.declared.history.Entry.{Entry}
use Rattle.ck_model.specs.declared.settings.Settings.{Settings}
use Rattle.ck_model.specs.Promise.{IsLegal, StartsWith, subhistory}
use Rattle.ck_model.specs.Contents.{Layout}
use Rattle.ck_core.specs.declared.trace.LockEvent.{LockEvent}
use Rattle.ck_core.specs.declared.view.View.{View}
use Rattle.ck_core.specs.Trace.{decided_in, steps_of}
use Rattle.ck_core.specs.State.{Configuration, HistoryInvariant}
use Rattle.ck_core.specs.Steps.{Label, Transition, Execution, Opening}
use Rattle.ck_core.specs.Steps.Label.{Take, FindHeld, Give, Decide, GiveRest, Renew, Look, Open, Tell, Join}

module _ {V : Type 0} where
  -- each number below `callers` is a view's own
  abbrev pub AllCallersStand : ℕ → Configuration V → Type 0
  AllCallersStand callers s = (m : ℕ) → m < callers → (j : ℕ) × (v : View V) × (get_elem? s.views j ≡ some v) × (v.by ≡ Some m)

  -- what a view of s had seen, a view of s2 has seen, and perhaps more
  abbrev pub ViewsGrow : Configuration V → Configuration V → Type 0
  ViewsGrow s s2 = (j : ℕ) (v : View V) → get_elem? s.views j ≡ some v → (i : ℕ) × (w : View V) × (get_elem? s2.views i ≡ some w) × StartsWith w.seen v.seen

  -- the entry that a step decides, if it decides one
  abbrev pub decision : Label V → List (Entry V)
  decision (Decide t ks e) = e ∷ []
  decision (Take t) = []
  decision (FindHeld t) = []
  decision (Give t g) = []
  decision (GiveRest t) = []
  decision (Renew t ks g) = []
  decision (Look t p) = []
  decision Open = []
  decision Tell = []
  decision (Join other) = []

  -- the entries that steps decide, in the order of the steps
  abbrev pub decided : List (ℕ × Label V) → List (Entry V)
  decided [] = []
  decided (m ∷ ms) = decision m.1 ++ decided ms

  -- the caller with this number has the view `id`, and holds no stripe
  abbrev pub IsIdleCaller : ℕ → ℕ → Configuration V → Type 0
  IsIdleCaller m id s = (v : View V) × (get_elem? s.views id ≡ some v) × (v.by ≡ Some m) × (v.held ≡ [])

  -- An answered call of the view `id`: steps of all callers, from a moment at which it holds nothing to another, among which its caller decides this entry and no other.
  pub record IsCall (k : Layout) (min_load id : ℕ) (e : Entry V) (log : List (Entry V)) (s : Configuration V) (ms : List (ℕ × Label V)) (log2 : List (Entry V)) (s2 : Configuration V) : Type 0 where
    pub begins : IsIdleCaller e.by id s
    pub runs : Execution k min_load log s ms log2 s2
    pub ends : IsIdleCaller e.by id s2
    pub entry : subhistory e.by (decided ms) ≡ e ∷ []

  -- Of two calls, the first from log1 to log2 and the second from log3 to log4, in a run that ends with log5: the entry of each stands behind what its call began with and in what it ended with, and so the first before the second.
  pub record StandInTime (log1 log2 log3 log4 log5 : List (Entry V)) (e e2 : Entry V) : Type 0 where
    pub before : List (Entry V)
    pub between : List (Entry V)
    pub after : List (Entry V)
    pub all : log5 ≡ before ++ e ∷ (between ++ e2 ∷ after)
    pub first_begins : StartsWith before log1
    pub first_ends : StartsWith log2 (before ++ e ∷ [])
    pub second_begins : StartsWith (before ++ e ∷ between) log3
    pub second_ends : StartsWith log4 (before ++ e ∷ (between ++ e2 ∷ []))

  -- the step joins another view to its caller's
  abbrev pub IsJoining : Label V → Type 0
  IsJoining (Join other) = Unit {0}
  IsJoining (Take t) = ⊥
  IsJoining (FindHeld t) = ⊥
  IsJoining (Give t g) = ⊥
  IsJoining (Decide t ks e) = ⊥
  IsJoining (GiveRest t) = ⊥
  IsJoining (Renew t ks g) = ⊥
  IsJoining (Look t p) = ⊥
  IsJoining Open = ⊥
  IsJoining Tell = ⊥

  -- the history has the one entry before the other
  abbrev pub Precedes : Entry V → Entry V → List (Entry V) → Type 0
  Precedes e e2 log = (first between last : List (Entry V)) × (log ≡ first ++ e ∷ (between ++ e2 ∷ last))

module _ (V : Type 0) where
  -- where all callers stand, the history is determined: it is the longest that one of them has seen
  abbrev pub LawOfOneHistory : Type 0
  LawOfOneHistory = (k : Layout) (callers : ℕ) (log log2 : List (Entry V)) (s : Configuration V) → HistoryInvariant k callers log s → HistoryInvariant k callers log2 s → AllCallersStand callers s → log ≡ log2

  -- and it is what one of them has seen
  abbrev pub LawOfSeenHistory : Type 0
  LawOfSeenHistory = (k : Layout) (callers : ℕ) (log : List (Entry V)) (s : Configuration V) → HistoryInvariant k callers log s → AllCallersStand callers s
      → (log ≡ []) ⊎ ((j : ℕ) × (v : View V) × (get_elem? s.views j ≡ some v) × (v.seen ≡ log))

  -- where views only grow, a later state's history begins by an earlier one's
  abbrev pub LawOfGrowth : Type 0
  LawOfGrowth = (k : Layout) (callers : ℕ) (log log2 : List (Entry V)) (s s2 : Configuration V) → HistoryInvariant k callers log s → HistoryInvariant k callers log2 s2 → AllCallersStand callers s → ViewsGrow s s2 → StartsWith log2 log

  -- by each step but a joining one views only grow
  abbrev pub LawOfGrowingViews : Type 0
  LawOfGrowingViews = (k : Layout) (min_load callers id : ℕ) (m : Label V) (log : List (Entry V)) (s s2 : Configuration V) → ¬ (IsJoining m) → HistoryInvariant k callers log s → Transition k min_load log id m s s2 → ViewsGrow s s2

  -- the history of a run is what its steps decide, in their order
  abbrev pub LawOfDecisions : Type 0
  LawOfDecisions = (k : Layout) (min_load : ℕ) (log log2 : List (Entry V)) (s s2 : Configuration V) (ms : List (ℕ × Label V)) → Execution k min_load log s ms log2 s2 → log2 ≡ log ++ decided ms

  -- Linearizability (Herlihy and Wing 1990) of the protocol, in the order of its steps. In each run from an opening the history is legal, and has the entry of each answered call between the call's beginning and its end: where one call ends before another begins, its entry stands before the other's.
  abbrev pub LawOfRealTime : Type 0
  LawOfRealTime = (k : Layout) (min_load : ℕ) (set : Settings) (callers p id id2 : ℕ) (e e2 : Entry V)
      (before during between during2 after : List (ℕ × Label V)) (log1 log2 log3 log4 log5 : List (Entry V)) (s0 s1 s2 s3 s4 s5 : Configuration V)
      → Opening k set callers p s0 → Execution k min_load [] s0 before log1 s1 → IsCall k min_load id e log1 s1 during log2 s2
      → Execution k min_load log2 s2 between log3 s3 → IsCall k min_load id2 e2 log3 s3 during2 log4 s4 → Execution k min_load log4 s4 after log5 s5
      → IsLegal log5 × StandInTime log1 log2 log3 log4 log5 e e2

  -- Linearizability in the order of the trace. Where of two calls in it the first ends before the second begins, each of which decided its entry by its caller's own step, the first's stands before the second's in the history.
  abbrev pub LawOfTraceOrder : Type 0
  LawOfTraceOrder = (m n : ℕ) (e e2 : Entry V) (before during between during2 after : List (LockEvent V)) → decided_in (steps_of m during) ≡ e ∷ [] → decided_in (steps_of n during2) ≡ e2 ∷ [] → Precedes e e2 (decided_in (before ++ (during ++ (between ++ (during2 ++ after)))))
