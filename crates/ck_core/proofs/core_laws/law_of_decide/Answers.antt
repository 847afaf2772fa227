use Rattle.ck_core.specs.Steps.Label.{Decide}
use Rattle.ck_core.proofs.Statements.{law_of_step}
use Rattle.ck_core.proofs.Answered.{law_of_replies}
use Rattle.ck_core.proofs.core_laws.law_of_decide.Goals as goal

pub returns : goal.returns
returns g c = record { kept = λ t ks e. law_of_step (Decide t ks e); reply = law_of_replies }
