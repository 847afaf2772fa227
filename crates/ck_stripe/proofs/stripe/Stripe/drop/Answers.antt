use Rattle.std.proofs.Common.{◌∙◌, sym, subst, arith}
use Rattle.ck_stripe.specs.Next.{IsFor}
use Rattle.ck_stripe.proofs.Stored.{few_stored}
use Rattle.ck_stripe.proofs.stripe.Stripe.drop.Goals as goal

pub empty_all-requires : goal.empty_all-requires
empty_all-requires g c = c.count-count.ensures ∙ sym c.self.invariant.count

pub close-requires-2-clause-few : goal.close-requires-2-clause-few
close-requires-2-clause-few g c = omega (arith, c.count-count.ensures, few_stored c.self.inside c.self.invariant)

pub close-requires-2-clause-all : goal.close-requires-2-clause-all
close-requires-2-clause-all g c = subst (λ n. IsFor n c.self.inside.next) (c.self.invariant.count ∙ sym c.count-count.ensures) c.self.invariant.next
