use Rattle.std.proofs.Common.{◌≡◌, ◌≤◌, ◌+◌, ◌-◌, ◌^◌, replicate}
use Rattle.std.specs.Prelude.{vec_capacity}
use Rattle.ck_stripe.proofs.spares.Spares.open.Given as goal

abbrev pub invariant-loop : goal.invariant-loop
invariant-loop g l = record {
  rows : l.count ≡ 2 ^ (l.power + 1 - l.s);
  few : l.count ≤ 2 ^ 26;
  made : l.blocks.items ≡ replicate l.counter l.count;
  room : l.stripes ≤ vec_capacity l.blocks;
}
