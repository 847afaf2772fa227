use Rattle.ck_bucket.proofs.RowSlots.{rewrites, row-cleared}
use Rattle.ck_bucket.proofs.rows.Rows.clear_row.Goals as goal

pub returns : goal.returns
returns g c = row-cleared (rewrites c.clear_slot.ensures.four c.clear_slot.ensures.emptied c.clear_slot-2.ensures.emptied c.clear_slot-3.ensures.emptied c.clear_slot-4.ensures.emptied)
