use Rattle.ck_core.specs.Steps.Label.{Give}
use Rattle.ck_core.proofs.Statements.{law_of_step}
use Rattle.ck_core.proofs.core_laws.law_of_give.Goals as goal

pub returns : goal.returns
returns g c = λ t g. law_of_step (Give t g)
