use Rattle.ck_core.specs.Steps.Label.{Open, Tell, Join}
use Rattle.ck_core.proofs.Statements.{law_of_step}
use Rattle.ck_core.proofs.core_laws.law_of_splits.Goals as goal

pub returns : goal.returns
returns g c = record { opening = law_of_step Open; telling = law_of_step Tell; joining = λ other. law_of_step (Join other) }
