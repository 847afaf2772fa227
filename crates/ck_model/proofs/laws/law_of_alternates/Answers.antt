use Rattle.std.proofs.Common.{◌+◌, arith}
use Rattle.ck_model.proofs.Buckets.{alternate_twice, alternate_lower, alternate_same}
use Rattle.ck_model.proofs.laws.law_of_alternates.Goals as goal

pub returns : goal.returns
returns c = record {
  twice = alternate_twice;
  next_power = λ p t b. alternate_lower p (p + 1) t b (omega arith);
  itself = alternate_same;
}
