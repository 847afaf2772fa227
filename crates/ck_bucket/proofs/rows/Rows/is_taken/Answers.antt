use Rattle.ck_bucket.proofs.SeenRows.{read_row, head-there, head-told, flag-at, row-four}
use Rattle.ck_bucket.proofs.rows.Rows.is_taken.Goals as goal

pub get-head-requires : goal.get-head-requires
get-head-requires g c = record { full = head-there (read_row c.self.view_is c.self.invariant.0 c.requires.row) }

pub returns-clause-taken : goal.returns-clause-taken
returns-clause-taken g c = flag-at (head-told (read_row c.self.view_is c.self.invariant.0 c.requires.row) c.get-head.ensures.value) c.args.slot c.requires.below

pub returns-clause-four : goal.returns-clause-four
returns-clause-four g c = row-four (read_row c.self.view_is c.self.invariant.0 c.requires.row)
