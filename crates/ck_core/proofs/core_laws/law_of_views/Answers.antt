use Rattle.ck_core.proofs.Statements as laws
use Rattle.ck_core.proofs.core_laws.law_of_views.Goals as goal

pub returns : goal.returns
returns g c = laws.law_of_views
