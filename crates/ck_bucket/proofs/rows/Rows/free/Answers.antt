use Rattle.std.proofs.Common.{IsSome, below_more}
use Rattle.ck_model.specs.Slots.{slot_at}
use Rattle.ck_model.specs.Contents.{row_at}
use Rattle.ck_bucket.proofs.SeenRows.{read_row, head-there, row-four, slot-free, slot-taken}
use Rattle.ck_bucket.proofs.rows.Rows.free.Goals as goal

pub get-head-requires : goal.get-head-requires
get-head-requires g c = record { full = head-there (read_row c.self.view_is c.self.invariant.0 c.requires) }

pub returns-then-not-head-i-clause-found : goal.returns-then-not-head-i-clause-found
returns-then-not-head-i-clause-found g c =
    slot-free (read_row c.self.view_is c.self.invariant.0 c.requires) c.get-head.ensures.value c.loop-i.i c.loop-i-test.true c.if-not-head-i.true

pub returns-then-not-head-i-clause-four : goal.returns-then-not-head-i-clause-four
returns-then-not-head-i-clause-four g c = row-four (read_row c.self.view_is c.self.invariant.0 c.requires)

pub loop-i-preserved : goal.loop-i-preserved
loop-i-preserved g c =
    below_more (λ j. IsSome (slot_at (row_at c.args.self.now c.args.row) j)) c.loop-i.i c.loop-i.invariant
    (slot-taken (read_row c.self.view_is c.self.invariant.0 c.requires) c.get-head.ensures.value c.loop-i.i c.loop-i-test.true c.if-not-head-i.false)

pub returns-clause-four : goal.returns-clause-four
returns-clause-four g c = row-four (read_row c.self.view_is c.self.invariant.0 c.requires)
