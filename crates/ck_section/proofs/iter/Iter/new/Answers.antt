use Rattle.ck_section.proofs.Listed.{rest_settled}
use Rattle.ck_section.proofs.iter.Iter.new.Goals as goal

pub invariant_of-result : goal.invariant_of-result
invariant_of-result g c = rest_settled c.in-Some.ensures.cases.0 c.requires.settled
