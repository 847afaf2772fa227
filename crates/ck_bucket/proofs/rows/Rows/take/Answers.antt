use Rattle.std.proofs.Common.{None, sym, ◌∙◌, ap, option_map}
use Rattle.ck_model.specs.Listing.{named}
use Rattle.ck_bucket.proofs.SeenRows.{read_row, head-there, head-told, head-clear, place-full, slot-seen, rows-set, heads-set}
use Rattle.ck_bucket.proofs.rows.Rows.take.Goals as goal

pub get_mut-head-requires : goal.get_mut-head-requires
get_mut-head-requires g c = record { full = head-there (read_row c.self.view_is c.self.invariant.0 c.requires.row) }

pub take-requires : goal.take-requires
take-requires g c = record { full = place-full (read_row c.self.view_is c.self.invariant.0 c.requires.row) c.args.slot c.requires.below c.requires.full }

pub invariant_of-self : goal.invariant_of-self
invariant_of-self g c =
    let row = read_row c.self.view_is c.self.invariant.0 c.requires.row in (
      heads-set row c.args.slot None c.requires.below c.take.ensures.items _ (head-clear (head-told row c.get_mut-head.ensures.value) c.args.slot),
      record { block = c.self.invariant.1.block ∙ sym c.take.ensures.block; behind = c.self.invariant.1.behind; allocator = c.self.invariant.1.allocator },
    )

pub returns-clause-entry : goal.returns-clause-entry
returns-clause-entry g c =
    slot-seen (read_row c.self.view_is c.self.invariant.0 c.requires.row) c.args.slot c.requires.below ∙ ap (option_map (named g.K.TableKey.name)) c.take.ensures.value

pub returns-clause-rest : goal.returns-clause-rest
returns-clause-rest g c = rows-set (read_row c.self.view_is c.self.invariant.0 c.requires.row) c.args.slot None c.requires.below c.take.ensures.items
