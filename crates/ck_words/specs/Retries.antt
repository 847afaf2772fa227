-- What several tries to take stripes leave.
use Rattle.std.specs.Prelude.{◌≡◌, ◌≢◌, ℕ, ◌<◌, ◌≤◌, List, [], ◌∷◌, ◌++◌, Some, All, replicate}
use Rattle.ck_model.specs.declared.history.Entry.{Entry}
use Rattle.ck_model.specs.declared.settings.Settings.{Settings}
use Rattle.ck_model.specs.Promise.{Name, StartsWith, subhistory}
use Rattle.ck_model.specs.Numbered.{IsIn}
use Rattle.ck_model.specs.Contents.{Stripes}
use Rattle.ck_core.specs.declared.trace.LockEvent.{LockEvent}
use Rattle.ck_core.specs.declared.view.RoomNote.{RoomNote}
use Rattle.ck_core.specs.declared.view.View.{View}
use Rattle.ck_core.specs.declared.trace.LockStep.TheVariants.{Missed, Gave, Decided}
use Rattle.ck_core.specs.Trace.{IsLegalTrace, decided_in, steps_of, missed_in}
use Rattle.ck_core.specs.State.{found_held}
use Rattle.ck_core.specs.Steps.{event}
use Rattle.ck_words.specs.Passes.{PassState, TakesStripe, IsIdle}

module _ {V : Type 0} where
  -- From v to w the caller watched these steps more. Its own among them are those that it made, and by them it decided the entries that it has more.
  abbrev pub WatchesMore : View V → View V → Type 0
  WatchesMore v w = (events : List (LockEvent V)) × (w.watched ≡ v.watched ++ events)
      × ((m : ℕ) → v.by ≡ Some m → (w.steps ≡ v.steps ++ steps_of m events) × (w.mine ≡ v.mine ++ decided_in (steps_of m events)))

  -- the step gave a stripe back
  abbrev pub IsGive : LockEvent V → Type 0
  IsGive e = (ks : Stripes V) × (e.step ≡ Gave ks)

  -- From v to w the caller's own steps gave stripes back, and did nothing else.
  abbrev pub GivesAlone : View V → View V → Type 0
  GivesAlone v w = (gives : List (LockEvent V)) × (w.steps ≡ v.steps ++ gives) × All IsGive gives

  -- From v to w the caller m decided an entry by a step on the word of stripe t, and behind it its own steps gave stripes back, and did nothing else.
  abbrev pub DecidesThenGives : View V → View V → Type 0
  DecidesThenGives v w = (m t : ℕ) × (v.by ≡ Some m) × (e : Entry V) × (ks : Stripes V) × (before gives : List (LockEvent V)) × (w.steps ≡ v.steps ++ before ++ event v.by (Decided e ks) t ∷ gives) × All IsGive gives

  -- n misses of the stripe t by the view's caller
  abbrev pub misses : ℕ → ℕ → View V → List (LockEvent V)
  misses n t v = replicate n (event v.by Missed t)

  -- these were its steps among the events
  abbrev pub MissesAlone : ℕ → ℕ → View V → List (LockEvent V) → Type 0
  MissesAlone n t v events = (m : ℕ) → v.by ≡ Some m → steps_of m events ≡ misses n t v

  -- the pass after it found the stripe t held n times more, by which it watched these steps more
  abbrev pub found_again : ℕ → ℕ → List (LockEvent V) → PassState V → PassState V
  found_again n t events p = record p { view = record p.view { watched = p.view.watched ++ events; steps = p.view.steps ++ misses n t p.view } }

  -- q is p after that
  abbrev pub FindsAgain : ℕ → ℕ → PassState V → PassState V → Type 0
  FindsAgain n t p q = (events : List (LockEvent V)) × (q ≡ found_again n t events p) × MissesAlone n t p.view events

  -- the stripe t was taken within so many tries, after the others found it held
  abbrev pub TakesWithin : (Name → ℕ) → Settings → ℕ → ℕ → PassState V → PassState V → Type 0
  TakesWithin hash set turns t p q = (n : ℕ) × (n < turns) × (events : List (LockEvent V)) × TakesStripe hash set t (found_again n t events p) q × MissesAlone n t p.view events

  -- What no step changes but one that decides, doubles or meets: the caller's entries, its doublings and what it heard, and it has seen and was told no less. What it sees more is by others, so that the only caller sees nothing more.
  -- It has noted more that names found no room.
  pub record StaysBut (more : List (RoomNote V)) (v w : View V) : Type 0 where
    pub settings : w.settings ≡ v.settings
    pub by : w.by ≡ v.by
    pub mine : w.mine ≡ v.mine
    pub others : w.others ≡ v.others
    pub heard : (w.heard ≡ v.heard) × (w.heard_told ≡ v.heard_told) × (w.heard_watched ≡ v.heard_watched)
    pub no_slot : w.no_slot ≡ more ++ v.no_slot
    pub seen : StartsWith w.seen v.seen
    pub by_others : (m : ℕ) → v.by ≡ Some m → subhistory m seen.0 ≡ []
    pub alone : v.settings.callers ≡ 1 → w.seen ≡ v.seen
    pub watched : WatchesMore v w
    pub told : v.told ≤ w.told
    pub doublings : w.doublings ≡ v.doublings
    pub grown_from : w.grown_from ≡ v.grown_from

  -- and it has said so of none more
  abbrev pub Stays : View V → View V → Type 0
  Stays = StaysBut []

  -- the pass p, as if its caller had made as many doublings as that of q
  abbrev pub as_doubled : PassState V → PassState V → PassState V
  as_doubled p q = record p { view = record p.view { doublings = q.view.doublings; grown_from = q.view.grown_from } }

  -- Of all stripes, the pass found such ones held.
  abbrev pub FindsAmong : (ℕ → Type 0) → PassState V → PassState V → Type 0
  FindsAmong P p q = (more : List ℕ) × (found_held q.view ≡ more ++ found_held p.view) × ((t : ℕ) → IsIn t more → P t)

  -- Its last tries all missed the stripe t, and behind them its own steps gave stripes back, and did nothing else.
  abbrev pub FindsLast : ℕ → ℕ → PassState V → PassState V → Type 0
  FindsLast turns t p q = (before gives : List (LockEvent V)) × (q.view.steps ≡ p.view.steps ++ before ++ misses turns t p.view ++ gives) × All IsGive gives

  -- In the trace that the pass has watched, which is legal, the stripe that its caller missed at its last tries, so many, was t: at each of them another had taken t, and not given it back.
  pub record HasMissed (turns t : ℕ) (q : PassState V) : Type 0 where
    pub legal : IsLegalTrace q.view.watched
    pub missed : (m : ℕ) → q.view.by ≡ Some m → (before : List ℕ) × (missed_in (steps_of m q.view.watched) ≡ replicate turns t ++ before)

  -- The pass holds no stripe. Its last tries all missed the stripe t, and its caller isn't the only one.
  abbrev pub IsBusy : Settings → ℕ → PassState V → PassState V → Type 0
  IsBusy set t p q = IsIdle q × FindsLast set.turns t p q × (set.callers ≢ 1) × HasMissed set.turns t q
