use Rattle.std.proofs.Common.{true, false, None, refl}
use Rattle.ck_model.specs.Slots.{slot_at}
use Rattle.ck_model.specs.Contents.{row_at}
use Rattle.ck_bucket.proofs.RowSlots.{slot-written}
use Rattle.ck_bucket.proofs.Asked.{asks_once}
use Rattle.ck_bucket.proofs.rows.Rows.retain_slot.Goals as goal

pub returns-then-f-clause-asked : goal.returns-then-f-clause-asked
returns-then-f-clause-asked g c =
    let slot = slot_at (row_at c.args.self.now c.args.row) c.args.slot in
    asks_once g.F.FnMut g.K.TableKey.name c.args.f.now c.f.new.self _ _ c.f.result true slot slot c.f.ensures c.if-f.true c.in-Some.ensures.value refl

pub returns-clause-asked : goal.returns-clause-asked
returns-clause-asked g c =
    let rows = c.args.self.now in
    asks_once g.F.FnMut g.K.TableKey.name c.args.f.now c.f.new.self _ _ c.f.result false (slot_at (row_at rows c.args.row) c.args.slot) (slot_at (row_at c.take-dropped.new.self c.args.row) c.args.slot)
    c.f.ensures c.if-f.false c.in-Some.ensures.value (slot-written rows c.take-dropped.new.self c.args.row c.args.slot None c.requires.row c.get.ensures.four c.requires.below c.take-dropped.ensures.rest)
