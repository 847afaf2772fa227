use Rattle.ck_model.proofs.Determined.{step_one, step_others}
use Rattle.ck_model.proofs.laws.law_of_steps.Goals as goal

pub returns : goal.returns
returns g c = record {
  determined = λ m a b call reply. step_one m call reply a b;
  others = step_others;
}
