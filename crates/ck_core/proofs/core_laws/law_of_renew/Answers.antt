use Rattle.ck_core.specs.Steps.Label.{Renew}
use Rattle.ck_core.proofs.Statements.{law_of_step}
use Rattle.ck_core.proofs.core_laws.law_of_renew.Goals as goal

pub returns : goal.returns
returns g c = λ t ks g. law_of_step (Renew t ks g)
