use Rattle.ck_model.proofs.Sections.{section_of_whole}
use Rattle.ck_model.proofs.laws.law_of_sections.Goals as goal

pub returns : goal.returns
returns g c = λ k w hs ks call reply lawful part. section_of_whole k w hs ks lawful part call reply
