use Rattle.std.proofs.Common.{◌≡◌, ℕ, ◌*◌, ◌%◌, ◌^◌, ◌<◌, ◌≤◌, subst, below_more, arith}
use Rattle.std.proofs.Math.Nat.{mod-eq_of_lt}
use Rattle.std.proofs.Math.Pow.{pow_mono}
use Rattle.cuckoo_map.proofs.room.growth.least_power.Goals as goal

-- so many slots are counted
slots_fit : (p : ℕ) → p ≤ 61 → 4 * 2 ^ p % 18446744073709551616 ≡ 4 * 2 ^ p
slots_fit p le = let z : 2 ^ p ≤ 2 ^ 61 = pow_mono le in mod-eq_of_lt (let below : 4 * 2 ^ p < 18446744073709551616 = omega arith in below)

pub loop-power-preserved : goal.loop-power-preserved
loop-power-preserved c =
    below_more _ _ c.loop-power.invariant (λ one. subst (λ m. m < c.args.n) (slots_fit c.loop-power.power (omega arith)) c.if-n-power.false)
