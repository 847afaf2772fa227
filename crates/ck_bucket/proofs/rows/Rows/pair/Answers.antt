use Rattle.std.proofs.Common.{◌∙◌, ap, option_map, arith}
use Rattle.ck_model.specs.Listing.{named}
use Rattle.ck_bucket.proofs.SeenRows.{read_row, row-below, row-four, slot-seen, place-full}
use Rattle.ck_bucket.proofs.rows.Rows.pair.Goals as goal

pub overflow_mul-row : goal.overflow_mul-row
overflow_mul-row g c = omega (arith, row-below (read_row c.self.view_is c.self.invariant.0 c.requires.row))

pub overflow_add-row : goal.overflow_add-row
overflow_add-row g c = omega (arith, row-below (read_row c.self.view_is c.self.invariant.0 c.requires.row))

pub get-requires : goal.get-requires
get-requires g c = record { full = place-full (read_row c.self.view_is c.self.invariant.0 c.requires.row) c.args.slot c.requires.below c.requires.full }

pub returns-clause-value : goal.returns-clause-value
returns-clause-value g c =
    slot-seen (read_row c.self.view_is c.self.invariant.0 c.requires.row) c.args.slot c.requires.below ∙ ap (option_map (named g.K.TableKey.name)) c.get.ensures.value

pub returns-clause-four : goal.returns-clause-four
returns-clause-four g c = row-four (read_row c.self.view_is c.self.invariant.0 c.requires.row)
