use Rattle.ck_core.proofs.Order.{law_of_decisions, law_of_real_time}
use Rattle.ck_core.proofs.core_laws.law_of_real_time.Goals as goal

pub returns : goal.returns
returns g c = record { decisions = law_of_decisions; order = law_of_real_time }
