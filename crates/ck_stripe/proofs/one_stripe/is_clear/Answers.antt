use Rattle.std.proofs.Common.{rules}
use Rattle.ck_stripe.specs.Stripes.{no_stripe}
use Rattle.ck_stripe.proofs.Visited.{none_changed}
use Rattle.ck_stripe.proofs.one_stripe.is_clear.Goals as goal

pub returns-clause-same : goal.returns-clause-same
returns-clause-same g c = none_changed _ _ c.args.i (c.visit.ensures.others no_stripe) (search rules)
