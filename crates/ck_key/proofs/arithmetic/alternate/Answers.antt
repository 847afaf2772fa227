use Rattle.std.proofs.Common.{◌≡◌, ℕ, ◌*◌, ◌^◌, ◌%◌, ◌≤◌, arith}
use Rattle.std.proofs.lemmas.Nat.{one_shl}
use Rattle.ck_model.specs.Arithmetic.{alternate_of, spread_of}
use Rattle.ck_model.proofs.Buckets.{alternate_twice, alternate_same, alternate_lower}
use Rattle.ck_key.proofs.arithmetic.alternate.Goals as goal

-- the number of buckets, as the shift computes it
buckets : (p : ℕ) → p ≤ 26 → 1 * 2 ^ p % 2 ^ 64 ≡ 2 ^ p
buckets p le = one_shl p 64 (omega arith)

pub returns-clause-back : goal.returns-clause-back
unfolding alternate_of spread_of
returns-clause-back c below = rw (buckets c.args.p c.requires) (alternate_twice c.args.p c.args.t c.args.b below)

pub returns-clause-same : goal.returns-clause-same
unfolding alternate_of spread_of
returns-clause-same c below = rw (buckets c.args.p c.requires) (alternate_same c.args.p c.args.t c.args.b (omega arith) below)

pub returns-clause-stripe : goal.returns-clause-stripe
unfolding alternate_of spread_of
returns-clause-stripe c s le = rw (buckets c.args.p c.requires) (alternate_lower s c.args.p c.args.t c.args.b le)
