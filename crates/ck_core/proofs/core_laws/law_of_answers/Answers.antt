use Rattle.ck_core.proofs.Answered.{law_of_answers, law_of_following, law_of_other_steps}
use Rattle.ck_core.proofs.core_laws.law_of_answers.Goals as goal

pub returns : goal.returns
returns g c = record { decided = law_of_answers; follows = law_of_following; other = law_of_other_steps }
