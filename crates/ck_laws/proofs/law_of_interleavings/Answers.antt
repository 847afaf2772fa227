use Rattle.ck_laws.proofs.Interleavings.{in_parts}
use Rattle.ck_laws.proofs.law_of_interleavings.Goals as goal

pub returns : goal.returns
returns g c = in_parts
