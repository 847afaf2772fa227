use Rattle.ck_model.proofs.Buckets.{index_lower, second_lower}
use Rattle.ck_key.proofs.key_hash.KeyHash.stripes.Goals as goal

pub returns-clause-first : goal.returns-clause-first
returns-clause-first c = λ p le. index_lower _ p _ le

pub returns-clause-second : goal.returns-clause-second
returns-clause-second c = λ p le. second_lower _ p _ le
