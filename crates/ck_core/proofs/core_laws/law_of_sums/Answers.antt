use Rattle.ck_core.proofs.Sums.{legal_sums}
use Rattle.ck_core.proofs.core_laws.law_of_sums.Goals as goal

pub returns : goal.returns
returns c = legal_sums
