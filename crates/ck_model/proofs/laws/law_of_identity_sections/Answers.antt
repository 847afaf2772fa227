use Rattle.ck_model.proofs.Sections.{identity_of_whole}
use Rattle.ck_model.proofs.laws.law_of_identity_sections.Goals as goal

pub returns : goal.returns
returns g c = identity_of_whole
