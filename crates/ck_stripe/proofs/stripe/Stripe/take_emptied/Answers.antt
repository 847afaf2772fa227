use Rattle.ck_stripe.proofs.Stored.{emptied_for}
use Rattle.ck_stripe.proofs.stripe.Stripe.take_emptied.Goals as goal

pub take_emptied-requires-clause-all : goal.take_emptied-requires-clause-all
take_emptied-requires-clause-all g c = emptied_for c.self.inside c.self.invariant
