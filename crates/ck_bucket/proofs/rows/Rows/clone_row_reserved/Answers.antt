use Rattle.std.proofs.Common.{map}
use Rattle.std.proofs.lemmas.Result.{on_ok_weaker}
use Rattle.ck_model.specs.Listing.{named}
use Rattle.ck_model.specs.Contents.{row_at}
use Rattle.ck_bucket.proofs.RowSlots.{four-of, row-pushed}
use Rattle.ck_bucket.proofs.rows.Rows.clone_row_reserved.Goals as goal

pub returns-clause-pairs : goal.returns-clause-pairs
returns-clause-pairs g c =
    on_ok_weaker c.clone_slot-4.result
    (row-pushed _ _ _ _ (map (named g.K.TableKey.name) c.args.pairs.now.items) (four-of (row_at c.args.self.now c.args.row) c.clone_slot-4.ensures.four)
    c.in_ok-clone_slot.ensures.pairs c.in_ok-clone_slot-2.ensures.pairs c.in_ok-clone_slot-3.ensures.pairs)
    c.clone_slot-4.ensures.pairs
