use Rattle.ck_model.specs.Slots.{slot_at}
use Rattle.ck_model.specs.Contents.{row_at}
use Rattle.ck_bucket.proofs.RowSlots.{Rewrites, rewrites, row-alone}
use Rattle.ck_bucket.proofs.Asked.{asks_four}
use Rattle.ck_bucket.proofs.rows.Rows.retain_row.Given.{Over}
use Rattle.ck_bucket.proofs.rows.Rows.retain_row.Goals as goal

written : (g : Over) (c : goal.After-retain_slot-4 g)
    → Rewrites c.args.row c.args.self.now c.retain_slot.new.self c.retain_slot-2.new.self c.retain_slot-3.new.self c.retain_slot-4.new.self
    (slot_at (row_at c.retain_slot.new.self c.args.row) 0) (slot_at (row_at c.retain_slot-2.new.self c.args.row) 1) (slot_at (row_at c.retain_slot-3.new.self c.args.row) 2) (slot_at (row_at c.retain_slot-4.new.self c.args.row) 3)
written g c = rewrites c.retain_slot.ensures.four c.retain_slot.ensures.rest c.retain_slot-2.ensures.rest c.retain_slot-3.ensures.rest c.retain_slot-4.ensures.rest

pub returns-clause-asked : goal.returns-clause-asked
returns-clause-asked g c =
    asks_four g.F.FnMut g.K.TableKey.name (written g c) c.requires.row c.args.f.now c.retain_slot.new.f c.retain_slot-2.new.f c.retain_slot-3.new.f c.retain_slot-4.new.f
    c.retain_slot.ensures.asked c.retain_slot-2.ensures.asked c.retain_slot-3.ensures.asked c.retain_slot-4.ensures.asked

pub returns-clause-rest : goal.returns-clause-rest
returns-clause-rest g c = row-alone (written g c) c.requires.row
