-- The steps on the words, each of which is one of the core.
use Rattle.std.specs.Prelude.{◌≡◌, ℕ, List}
use mathlib.Core.Option.{some}
use lib.ListN.{get_elem?}
use Rattle.ck_model.specs.declared.history.Entry.{Entry}
use Rattle.ck_model.specs.declared.settings.Settings.{Settings}
use Rattle.ck_model.specs.Promise.{Name}
use Rattle.ck_model.specs.Contents.{layout_of}
use Rattle.ck_core.specs.declared.view.View.{View}
use Rattle.ck_core.specs.State.{Configuration, HistoryInvariant}
use Rattle.ck_core.specs.Steps.{Label, Transition}

-- A caller went from the view v to w by this step of the core, in a state under the invariant with this history.
pub record Steps {V : Type 0} (hash : Name → ℕ) (set : Settings) (m : Label V) (v w : View V) : Type 0 where
  pub log : List (Entry V)
  pub id : ℕ
  pub before : Configuration V
  pub after : Configuration V
  pub law : HistoryInvariant (layout_of hash set) set.callers log before
  pub does : Transition (layout_of hash set) set.min_load log id m before after
  pub was : get_elem? before.views id ≡ some v
  pub is : get_elem? after.views id ≡ some w
