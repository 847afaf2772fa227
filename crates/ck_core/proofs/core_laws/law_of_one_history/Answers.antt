use Rattle.ck_core.proofs.Order.{law_of_one_history, law_of_seen_history, law_of_growth, law_of_growing_views}
use Rattle.ck_core.proofs.core_laws.law_of_one_history.Goals as goal

pub returns : goal.returns
returns g c = record { determined = law_of_one_history; seen = law_of_seen_history; grows = law_of_growth; steps = law_of_growing_views }
