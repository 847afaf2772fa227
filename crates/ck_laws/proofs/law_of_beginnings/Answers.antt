use Rattle.ck_laws.proofs.Replying.{beginnings}
use Rattle.ck_laws.proofs.law_of_beginnings.Goals as goal

pub returns : goal.returns
returns g c = beginnings
