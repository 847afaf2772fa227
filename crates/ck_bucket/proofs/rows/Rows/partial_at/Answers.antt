use Rattle.std.proofs.Common.{sym, ap}
use Rattle.ck_model.specs.Paths.{partial_in}
use Rattle.ck_bucket.proofs.SeenRows.{read_row, head-there, head-told, row-four, slot-free, partial-seen}
use Rattle.ck_bucket.proofs.rows.Rows.partial_at.Goals as goal

pub get-head-requires : goal.get-head-requires
get-head-requires g c = record { full = head-there (read_row c.self.view_is c.self.invariant.0 c.requires.row) }

pub returns-then-head-slot-clause-value : goal.returns-then-head-slot-clause-value
returns-then-head-slot-clause-value g c =
    partial-seen (head-told (read_row c.self.view_is c.self.invariant.0 c.requires.row) c.get-head.ensures.value) c.args.slot c.requires.below c.if-head-slot.true

pub returns-then-head-slot-clause-four : goal.returns-then-head-slot-clause-four
returns-then-head-slot-clause-four g c = row-four (read_row c.self.view_is c.self.invariant.0 c.requires.row)

pub returns-else-head-slot-clause-value : goal.returns-else-head-slot-clause-value
returns-else-head-slot-clause-value g c =
    sym (ap (partial_in g.K.TableKey.hash) (slot-free (read_row c.self.view_is c.self.invariant.0 c.requires.row) c.get-head.ensures.value c.args.slot c.requires.below c.if-head-slot.false))

pub returns-else-head-slot-clause-four : goal.returns-else-head-slot-clause-four
returns-else-head-slot-clause-four g c = row-four (read_row c.self.view_is c.self.invariant.0 c.requires.row)
