use Rattle.std.proofs.Common.{sym, ◌∙◌}
use Rattle.ck_stripe.proofs.Stored.{kept_split}
use Rattle.ck_stripe.proofs.stripe.Stripe.settle.Goals as goal

pub invariant_of-self : goal.invariant_of-self
invariant_of-self g c =
    kept_split g.K.TableKey.hash c.self.inside c.self.invariant c.split_all-emptied.new.rows c.split_all-emptied.result c.put.new.self (sym c.is_settled.ensures ∙ c.if-not-is_settled.true) c.split_all-emptied.ensures.split c.split_all-emptied.ensures.emptied c.put.ensures
