use Rattle.ck_core.proofs.Moments.{law_of_contents}
use Rattle.ck_core.proofs.core_laws.law_of_contents.Goals as goal

pub returns : goal.returns
returns g c = law_of_contents
