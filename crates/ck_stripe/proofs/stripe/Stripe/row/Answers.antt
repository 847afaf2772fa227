use Rattle.std.proofs.Common.{◌<◌, ◌/◌, ◌^◌, sym, ap, subst, length}
use Rattle.ck_stripe.specs.Stripe.{StripeState}
use Rattle.ck_stripe.proofs.Stored.{formed_now}
use Rattle.ck_stripe.proofs.Writes.{row_below}
use Rattle.ck_stripe.proofs.stripe.Stripe.row.Goals as goal

pub returns-clause-below : goal.returns-clause-below
returns-clause-below g c =
    subst (λ s. c.args.b / 2 ^ s < length c.args.self.now.content.rows) (sym (ap (λ (w : StripeState g.row.V.Denot). w.s) c.self.view_is))
    (row_below c.args.self.now c.args.b (formed_now g.K.TableKey.hash c.self.inside c.self.invariant c.args.self.now c.self.view_is).shaped c.requires.own)
