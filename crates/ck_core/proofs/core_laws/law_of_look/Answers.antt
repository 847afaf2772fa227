use Rattle.ck_core.specs.Steps.Label.{Look}
use Rattle.ck_core.proofs.Statements.{law_of_step}
use Rattle.ck_core.proofs.core_laws.law_of_look.Goals as goal

pub returns : goal.returns
returns g c = λ t p. law_of_step (Look t p)
