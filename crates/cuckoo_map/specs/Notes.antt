-- What a caller knows besides what its client sees: what it was told, did and said.
use Rattle.std.specs.Prelude.{ℕ, List, []}
use Rattle.atomic_table.specs.Seated.{TableId}
use Rattle.ck_model.specs.declared.history.Entry.{Entry}
use Rattle.ck_model.specs.Promise.{Client}
use Rattle.ck_model.specs.Contents.{Stripes}
use Rattle.ck_core.specs.declared.trace.LockEvent.{LockEvent}
use Rattle.ck_core.specs.declared.view.RoomNote.{RoomNote}
use Rattle.ck_core.specs.declared.view.View.{View}
use Rattle.ck_words.specs.Passes.{PassState}

-- The power that it was told, how often it made the table double and what the stripes contained then, the trace up to its last step on a lock word, its own steps in it, the names that found no room, why, and in which stripes, and what another caller had seen, was told and had watched when it was last met.
pub record Notes (V : Type 0) : Type 0 where
  pub told : ℕ
  pub doublings : ℕ
  pub grown_from : List (Stripes V)
  pub watched : List (LockEvent V)
  pub steps : List (LockEvent V)
  pub no_slot : List (RoomNote V)
  pub heard : List (Entry V)
  pub heard_told : ℕ
  pub heard_watched : List (LockEvent V)

module _ {V : Type 0} where
  -- the notes of a view
  abbrev pub notes_of : View V → Notes V
  notes_of v = record { told = v.told; doublings = v.doublings; grown_from = v.grown_from; watched = v.watched; steps = v.steps; no_slot = v.no_slot; heard = v.heard; heard_told = v.heard_told; heard_watched = v.heard_watched }

  -- the view of a caller that holds no stripe and keeps no other's number
  abbrev pub view_of : Client V → Notes V → View V
  view_of c n = record { settings = c.settings; by = c.by; held = []; seen = c.seen; mine = c.mine; told = n.told; doublings = n.doublings; grown_from = n.grown_from; watched = n.watched; steps = n.steps; no_slot = n.no_slot; heard = n.heard; heard_told = n.heard_told; heard_watched = n.heard_watched; others = [] }

  -- its pass
  abbrev pub idle_pass : TableId → Client V → Notes V → PassState V
  idle_pass table c n = record { table = table; view = view_of c n; stripes = [] }
