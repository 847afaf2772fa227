use Rattle.std.proofs.Common.{Some, sym, ◌∙◌}
use Rattle.ck_bucket.proofs.SeenRows.{read_row, head-there, head-told, head-put, place-empty, rows-set, heads-set}
use Rattle.ck_bucket.proofs.rows.Rows.put.Goals as goal

pub get_mut-head-requires : goal.get_mut-head-requires
get_mut-head-requires g c = record { full = head-there (read_row c.self.view_is c.self.invariant.0 c.requires.row) }

pub put-requires-clause-empty : goal.put-requires-clause-empty
put-requires-clause-empty g c = place-empty (read_row c.self.view_is c.self.invariant.0 c.requires.row) c.args.slot c.requires.below c.requires.free

pub invariant_of-self : goal.invariant_of-self
invariant_of-self g c =
    let row = read_row c.self.view_is c.self.invariant.0 c.requires.row in (
      heads-set row c.args.slot (Some (c.args.key, c.args.value)) c.requires.below c.put.ensures.items _
          (head-put (head-told row c.get_mut-head.ensures.value) c.args.slot c.args.partial _ _ c.requires.below c.requires.partial),
      record { block = c.self.invariant.1.block ∙ sym c.put.ensures.block; behind = c.self.invariant.1.behind; allocator = c.self.invariant.1.allocator },
    )

pub returns : goal.returns
returns g c = rows-set (read_row c.self.view_is c.self.invariant.0 c.requires.row) c.args.slot (Some (c.args.key, c.args.value)) c.requires.below c.put.ensures.items
