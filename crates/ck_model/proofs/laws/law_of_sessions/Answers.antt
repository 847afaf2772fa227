use Rattle.std.proofs.Common.{refl, sym, ◌∙◌}
use Rattle.ck_model.proofs.Determined.{step_session}
use Rattle.ck_model.proofs.laws.law_of_sessions.Goals as goal

pub returns : goal.returns
returns g c = record {
  names = step_session;
  all = λ m m2 a b st qs apart rest. (refl, apart, refl, refl, λ q out. (rest q out).1 ∙ sym (rest q out).0);
}
