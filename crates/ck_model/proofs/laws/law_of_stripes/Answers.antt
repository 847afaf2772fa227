use Rattle.ck_model.proofs.Buckets.{index_lower, second_lower}
use Rattle.ck_model.proofs.laws.law_of_stripes.Goals as goal

pub returns : goal.returns
returns c = λ s p h le. (index_lower s p h le, second_lower s p h le)
