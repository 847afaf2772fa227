use Rattle.std.proofs.Common.{ℕ, ◌*◌, ◌^◌, ◌<◌, ◌≤◌}
use Rattle.cuckoo_map.proofs.room.growth.least_power.Given as goal

abbrev pub invariant-loop-power : goal.invariant-loop-power
invariant-loop-power l = (p : ℕ) → p < l.power → 1 ≤ p → 4 * 2 ^ p < l.n
