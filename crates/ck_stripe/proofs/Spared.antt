-- How the blocks for a doubling are counted.
use Rattle.std.proofs.Common.{◌≡◌, ℕ, ◌+◌, ◌-◌, ◌*◌, ◌^◌, ◌%◌, ◌<◌, ◌≤◌, ◌∙◌, refl, arith}
use Rattle.std.proofs.Math.Nat.{mod-eq_of_lt}
use Rattle.std.proofs.Math.Pow.{pow_mono}
use Rattle.std.proofs.lemmas.Nat.{one_shl}
use Rattle.ck_stripe.proofs.Doubled.{twice_rows}

-- one for each stripe
pub stripes_counted : (s : ℕ) → s ≤ 10 → 1 * 2 ^ s % 2 ^ 64 ≡ 2 ^ s
stripes_counted s le = one_shl s 64 (omega arith)

pub few_doubled : (s p : ℕ) → p < 26 → 2 ^ (p + 1 - s) ≤ 2 ^ 26
few_doubled s p low = pow_mono (let le : p + 1 - s ≤ 26 = omega arith in le)

-- for twice the rows
pub doubled_counted : (s p : ℕ) → s ≤ p → p < 26 → 2 * 2 ^ (p - s) % 2 ^ 64 ≡ 2 ^ (p + 1 - s)
doubled_counted s p le low =
    let twice = twice_rows s p (2 ^ (p - s)) le refl in
    let few = few_doubled s p low in
    mod-eq_of_lt (omega arith) ∙ twice
