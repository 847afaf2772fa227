use Rattle.std.proofs.Common.{ap, length}
use Rattle.ck_bucket.specs.Bucket.{staying, rising}
use Rattle.ck_bucket.proofs.RowSlots.{Clears, rewrites, row-cleared, rows-split}
use Rattle.ck_bucket.proofs.rows.Rows.split_row.Goals as goal

pub returns-clause-emptied : goal.returns-clause-emptied
returns-clause-emptied g c = row-cleared (rewrites c.split_slot.ensures.four c.split_slot.ensures.emptied c.split_slot-2.ensures.emptied c.split_slot-3.ensures.emptied c.split_slot-4.ensures.emptied)

pub returns-clause-split : goal.returns-clause-split
returns-clause-split g c =
    let clears : Clears c.args.row c.args.self.now c.split_slot.new.self c.split_slot-2.new.self c.split_slot-3.new.self c.split_slot-4.new.self = rewrites c.split_slot.ensures.four c.split_slot.ensures.emptied c.split_slot-2.ensures.emptied c.split_slot-3.ensures.emptied c.split_slot-4.ensures.emptied in
    rows-split clears c.args.into.now (staying g.K.TableKey.hash c.args.p c.args.b) (rising g.K.TableKey.hash c.args.p c.args.b) c.args.low_at c.args.high_at c.requires.apart
    (ap length c.requires.low_free) (ap length c.requires.high_free) c.split_slot.ensures.split c.split_slot-2.ensures.split c.split_slot-3.ensures.split c.split_slot-4.ensures.split
