use Rattle.std.proofs.Common.{◌+◌, ◌*◌, Some, refl, ap, set, arith}
use Rattle.ck_bucket.proofs.SeenRows.{read_row, row-below, place-full, value-replaced, value-rest, value-kept}
use Rattle.ck_bucket.proofs.rows.Rows.replace.Goals as goal

pub overflow_mul-row : goal.overflow_mul-row
overflow_mul-row g c = omega (arith, row-below (read_row c.self.view_is c.self.invariant.0 c.requires.row))

pub overflow_add-row : goal.overflow_add-row
overflow_add-row g c = omega (arith, row-below (read_row c.self.view_is c.self.invariant.0 c.requires.row))

pub get_mut-pair-requires : goal.get_mut-pair-requires
get_mut-pair-requires g c = record { full = place-full (read_row c.self.view_is c.self.invariant.0 c.requires.row) c.args.slot c.requires.below c.requires.full }

pub invariant_of-self : goal.invariant_of-self
invariant_of-self g c = (
  value-kept (read_row c.self.view_is c.self.invariant.0 c.requires.row) c.args.slot c.get_mut-pair.result.now c.replace.new.dest c.requires.below c.get_mut-pair.ensures.value refl,
  record { block = c.self.invariant.1.block; behind = c.self.invariant.1.behind; allocator = c.self.invariant.1.allocator },
)

pub returns-clause-entry : goal.returns-clause-entry
returns-clause-entry g c =
    value-replaced (read_row c.self.view_is c.self.invariant.0 c.requires.row) c.args.slot c.get_mut-pair.result.now c.args.value c.requires.below c.get_mut-pair.ensures.value
    (ap (λ v. set c.self.inside.pairs.items (c.args.row * 4 + c.args.slot) (Some (c.get_mut-pair.result.now.0, v))) c.replace.ensures.after) c.replace.result c.replace.ensures.value

pub returns-clause-rest : goal.returns-clause-rest
returns-clause-rest g c =
    value-rest (read_row c.self.view_is c.self.invariant.0 c.requires.row) c.args.slot c.get_mut-pair.result.now c.replace.new.dest c.requires.below c.get_mut-pair.ensures.value refl
