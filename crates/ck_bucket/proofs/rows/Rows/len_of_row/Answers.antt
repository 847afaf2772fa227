use Rattle.ck_model.specs.Contents.{row_at}
use Rattle.ck_bucket.proofs.RowSlots.{four-of, flags-counted}
use Rattle.ck_bucket.proofs.SeenRows.{read_row, head-there, head-told, row-four}
use Rattle.ck_bucket.proofs.rows.Rows.len_of_row.Goals as goal

pub get-head-requires : goal.get-head-requires
get-head-requires g c = record { full = head-there (read_row c.self.view_is c.self.invariant.0 c.requires) }

pub returns-clause-len : goal.returns-clause-len
returns-clause-len g c =
    let row = read_row c.self.view_is c.self.invariant.0 c.requires in
    rw ((head-told row c.get-head.ensures.value).flags, four-of (row_at c.args.self.now c.args.row) (row-four row)) (flags-counted _ _ _ _)
