use Rattle.std.proofs.Common.{◌++◌, sym, ap, subst, ◌∙◌, length, map, arith}
use Rattle.ck_model.specs.Listing.{named}
use Rattle.ck_stripe.specs.Next.{IsFor}
use Rattle.ck_stripe.proofs.Stored.{few_stored, pairs_stored}
use Rattle.ck_stripe.proofs.stripe.Stripe.pour_reserved.Goals as goal

pub pour_all-requires-clause-count : goal.pour_all-requires-clause-count
pour_all-requires-clause-count g c = c.count-count.ensures ∙ sym c.self.invariant.count

pub pour_all-requires-clause-room : goal.pour_all-requires-clause-room
pour_all-requires-clause-room g c = omega (arith, ap length (pairs_stored g.K.TableKey.hash c.self.inside c.self.invariant c.args.self c.self.view_is c.requires.settled), c.requires.room)

pub close-requires-2-clause-few : goal.close-requires-2-clause-few
close-requires-2-clause-few g c = omega (arith, c.count-count.ensures, few_stored c.self.inside c.self.invariant)

pub close-requires-2-clause-all : goal.close-requires-2-clause-all
close-requires-2-clause-all g c = subst (λ n. IsFor n c.self.inside.next) (c.self.invariant.count ∙ sym c.count-count.ensures) c.self.invariant.next

pub returns-clause-pairs : goal.returns-clause-pairs
returns-clause-pairs g c =
    c.pour_all.ensures.pairs ∙ ap (λ es. map (named g.K.TableKey.name) c.args.pairs.now.items ++ es) (sym (pairs_stored g.K.TableKey.hash c.self.inside c.self.invariant c.args.self c.self.view_is c.requires.settled))
