-- What stripes contained at each moment, and what callers noted of them then.
use Rattle.std.specs.Prelude.{◌≡◌, ◌⊎◌, ℕ, List, [], ◌++◌, reverse, Some}
use mathlib.Core.Option.{some}
use lib.ListN.{get_elem?}
use Rattle.ck_model.specs.declared.history.Entry.{Entry}
use Rattle.ck_model.specs.declared.settings.Settings.{Settings}
use Rattle.ck_model.specs.Promise.{After, StartsWith}
use Rattle.ck_model.specs.Numbered.{IsIn, numbers}
use Rattle.ck_model.specs.Contents.{Layout, Stripes, bindings, Lawful, whole}
use Rattle.ck_model.specs.Sections.{HasAll, IdentitySection}
use Rattle.ck_core.specs.declared.view.RoomNote.{RoomNote}
use Rattle.ck_core.specs.declared.view.View.{View}
use Rattle.ck_core.specs.declared.trace.LockEvent.{LockEvent}
use Rattle.ck_core.specs.Trace.{holder, decided_in}
use Rattle.ck_core.specs.Contained.{content_in}
use Rattle.ck_core.specs.State.{Configuration}
use Rattle.ck_core.specs.Steps.{Label, IsExcused, Execution, Opening}

module _ {V : Type 0} where
  -- After this history the caller of the view `id` holds these stripes, by the trace too. They contain this, or go to it by no call. Where they are all, they bind what the history leaves.
  pub record HoldsThese (k : Layout) (id : ℕ) (log : List (Entry V)) (s : Configuration V) (hs : Stripes V) : Type 0 where
    pub view : View V
    pub stands : get_elem? s.views id ≡ some view
    pub contents : (view.held ≡ hs) ⊎ IdentitySection k view.held hs
    pub holder : (t : ℕ) → IsIn t (numbers hs) → holder s.trace t ≡ view.by
    pub after : HasAll k hs → After log (bindings hs)

  -- The run came through a moment of its trace at which the stripes that the caller of the view `id` held contained this, of which P is so.
  pub record ContainedOnce (k : Layout) (min_load id : ℕ) (P : Stripes V → Type 0) (log : List (Entry V)) (s : Configuration V) (ms : List (ℕ × Label V)) (log2 : List (Entry V)) (s2 : Configuration V) (these : Stripes V) : Type 0 where
    pub before : List (ℕ × Label V)
    pub after : List (ℕ × Label V)
    pub all : ms ≡ before ++ after
    pub history : List (Entry V)
    pub moment : Configuration V
    pub leads_to : Execution k min_load log s before history moment
    pub leads_on : Execution k min_load history moment after log2 s2
    pub trace : StartsWith s2.trace moment.trace
    pub held : Stripes V
    pub noted : these ≡ reverse held
    pub contained : HoldsThese k id history moment held
    pub so : P held

module _ (V : Type 0) where
  -- In each run from an opening: at each moment of its trace the stripes contain, by the trace, a lawful whole, which binds what the entries leave that were decided until then.
  abbrev pub LawOfContents : Type 0
  LawOfContents = (k : Layout) (min_load : ℕ) (set : Settings) (callers p : ℕ) (s : Configuration V) (ms : List (ℕ × Label V)) (log : List (Entry V)) (s2 : Configuration V)
      → Opening k set callers p s → Execution k min_load [] s ms log s2 → (moment : List (LockEvent V)) → StartsWith s2.trace moment
      → Lawful k (whole k (content_in k.s p moment)) × After (decided_in moment) (bindings (whole k (content_in k.s p moment)))

  -- In each run from an opening, what a caller noted where a name found no room is what its stripes contained at a moment of the run, and it gave the reason.
  abbrev pub LawOfRoomNotes : Type 0
  LawOfRoomNotes = (k : Layout) (min_load : ℕ) (set : Settings) (callers p : ℕ) (s : Configuration V) (ms : List (ℕ × Label V)) (log : List (Entry V)) (s2 : Configuration V)
      → Opening k set callers p s → Execution k min_load [] s ms log s2 → (id : ℕ) (v : View V) → get_elem? s2.views id ≡ some v → (x : RoomNote V) → IsIn x v.no_slot
      → ContainedOnce k min_load id (λ hs. IsExcused k min_load hs (Some (x.name, x.reason))) [] s ms log s2 x.held

  -- And what it noted where it made the table double is what all stripes contained at a moment of the run, when it held them.
  abbrev pub LawOfGrowths : Type 0
  LawOfGrowths = (k : Layout) (min_load : ℕ) (set : Settings) (callers p : ℕ) (s : Configuration V) (ms : List (ℕ × Label V)) (log : List (Entry V)) (s2 : Configuration V)
      → Opening k set callers p s → Execution k min_load [] s ms log s2 → (id : ℕ) (v : View V) → get_elem? s2.views id ≡ some v → (hs : Stripes V) → IsIn hs v.grown_from
      → ContainedOnce k min_load id (λ hs. HasAll k hs) [] s ms log s2 hs
