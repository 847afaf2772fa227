-- What a caller tells another, and what that leaves.
use Rattle.std.specs.Prelude.{◌≡◌, ℕ, ◌≤◌, List, []}
use Rattle.atomic_table.specs.Seated.{TableId}
use Rattle.ck_model.specs.declared.history.Entry.{Entry}
use Rattle.ck_model.specs.Promise.{StartsWith}
use Rattle.ck_core.specs.declared.trace.LockEvent.{LockEvent}
use Rattle.ck_core.specs.Steps.{message_of}
use Rattle.ck_words.specs.Rule.{Hand}
use Rattle.ck_words.specs.Passes.{PassState}

-- Of which table it is, and what its caller had seen, was told and had watched.
pub record MessageState (V : Type 0) : Type 0 where
  pub table : TableId
  pub seen : List (Entry V)
  pub told : ℕ
  pub watched : List (LockEvent V)

module _ {V : Type 0} where
  -- what a seat that holds no slot tells of its view
  abbrev pub told_by : TableId → Hand V → MessageState V
  told_by table me = record { table = table; seen = me.0.seen; told = me.0.told; watched = me.0.watched }

  -- the seat of a message
  abbrev pub IsMessage : Hand V → Type 0
  IsMessage me = (me.0 ≡ message_of me.0) × (me.1 ≡ [])

  -- what a pass tells
  abbrev pub message_from : PassState V → MessageState V
  message_from a = record { table = a.table; seen = a.view.seen; told = a.view.told; watched = a.view.watched }

  -- b has heard the message
  pub record Hears (message : MessageState V) (b new : PassState V) : Type 0 where
    pub seen : StartsWith new.view.seen b.view.seen
    pub heard : StartsWith new.view.seen message.seen
    pub told : b.view.told ≤ new.view.told
    pub heard_told : message.told ≤ new.view.told
    -- both have watched beginnings of one trace
    pub watched : StartsWith new.view.watched b.view.watched
    pub heard_watched : StartsWith new.view.watched message.watched
    pub by : new.view.by ≡ b.view.by
    pub mine : new.view.mine ≡ b.view.mine
    pub others : new.view.others ≡ b.view.others
    pub doublings : new.view.doublings ≡ b.view.doublings
    pub steps : new.view.steps ≡ b.view.steps
    pub grown_from : new.view.grown_from ≡ b.view.grown_from
    pub no_slot : new.view.no_slot ≡ b.view.no_slot
    pub held : new.view.held ≡ b.view.held
    pub stripes : new.stripes ≡ b.stripes

  -- b has met a
  abbrev pub Meets : PassState V → PassState V → PassState V → Type 0
  Meets a b new = Hears (message_from a) b new
