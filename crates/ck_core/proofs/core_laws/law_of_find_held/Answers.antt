use Rattle.ck_core.specs.Steps.Label.{FindHeld}
use Rattle.ck_core.proofs.Statements.{law_of_step}
use Rattle.ck_core.proofs.Answered.{law_of_findings, law_of_one_caller}
use Rattle.ck_core.proofs.core_laws.law_of_find_held.Goals as goal

pub returns : goal.returns
returns g c = record { kept = λ t. law_of_step (FindHeld t); another = law_of_findings; alone = law_of_one_caller }
