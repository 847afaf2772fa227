use Rattle.ck_format.proofs.Faultless.{faultless, spelled_faultless, one_script}
use Rattle.ck_format.proofs.format_laws.law_of_scripts.Goals as goal

pub returns-clause-faultless : goal.returns-clause-faultless
returns-clause-faultless c bytes = (faultless bytes, λ h. spelled_faultless bytes h.0 h.1)

pub returns-clause-one : goal.returns-clause-one
returns-clause-one c = one_script
