use Rattle.std.proofs.Common.{◌≡◌, ◌*◌, ◌≤◌, flat_map, length, take}
use Rattle.ck_model.specs.Slots.{taken_in}
use Rattle.ck_stripe.proofs.stripe.len_of_rows.Given as goal

abbrev pub invariant-loop-row : goal.invariant-loop-row
invariant-loop-row g l = record {
  counted : l.len ≡ length (flat_map taken_in (take l.row l.rows));
  few : l.len ≤ 4 * l.row;
}
