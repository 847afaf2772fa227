use Rattle.std.proofs.Common.{map}
use Rattle.ck_model.specs.Listing.{named}
use Rattle.ck_bucket.proofs.RowSlots.{Clears, rewrites, row-cleared, row-met, row-pushed}
use Rattle.ck_bucket.proofs.rows.Rows.pour_row_reserved.Goals as goal

pub returns-clause-emptied : goal.returns-clause-emptied
returns-clause-emptied g c = row-cleared (rewrites c.pour_slot.ensures.four c.pour_slot.ensures.emptied c.pour_slot-2.ensures.emptied c.pour_slot-3.ensures.emptied c.pour_slot-4.ensures.emptied)

pub returns-clause-pairs : goal.returns-clause-pairs
returns-clause-pairs g c =
    let clears : Clears c.args.row c.args.self.now c.pour_slot.new.self c.pour_slot-2.new.self c.pour_slot-3.new.self c.pour_slot-4.new.self = rewrites c.pour_slot.ensures.four c.pour_slot.ensures.emptied c.pour_slot-2.ensures.emptied c.pour_slot-3.ensures.emptied c.pour_slot-4.ensures.emptied in
    row-pushed _ _ _ _ (map (named g.K.TableKey.name) c.args.pairs.now.items) (row-met clears)
    c.pour_slot.ensures.pairs c.pour_slot-2.ensures.pairs c.pour_slot-3.ensures.pairs c.pour_slot-4.ensures.pairs
