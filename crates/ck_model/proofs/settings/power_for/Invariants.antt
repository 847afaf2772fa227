use Rattle.std.proofs.Common.{◌≡◌, ◌⊎◌, ◌≤◌, ◌<◌, ◌-◌, ◌*◌, ◌^◌}
use Rattle.ck_model.proofs.settings.power_for.Given as goal

abbrev pub invariant-loop-power : goal.invariant-loop-power
invariant-loop-power l = (1 ≤ l.power) × (l.power ≤ 26) × ((l.power ≡ 1) ⊎ (3 * 2 ^ (l.power - 1) < l.keys))

abbrev pub decreases-loop-power : goal.decreases-loop-power
decreases-loop-power l = 26 - l.power
