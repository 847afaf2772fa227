use Rattle.std.proofs.Common.{arith}
use Rattle.ck_stripe.proofs.Stored.{few_stored}
use Rattle.ck_stripe.proofs.stripe.Stripe.shrink_to_fit.Goals as goal

pub close-requires-clause-few : goal.close-requires-clause-few
close-requires-clause-few g c = omega (arith, c.count-count.ensures, few_stored c.self.inside c.self.invariant)
