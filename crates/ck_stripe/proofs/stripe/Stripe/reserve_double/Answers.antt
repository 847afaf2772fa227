use Rattle.std.proofs.Common.{◌≤◌, ◌∙◌, sym, ap, subst}
use Rattle.ck_stripe.specs.Stripe.{StripeState}
use Rattle.ck_stripe.specs.Next.{room_of}
use Rattle.ck_stripe.proofs.Stored.{room_rises}
use Rattle.ck_stripe.proofs.stripe.Stripe.reserve_double.Goals as goal

pub returns-clause-room : goal.returns-clause-room
returns-clause-room g c =
    subst (λ n. n ≤ room_of c.self.inside.s c.self.inside.power c.put.new.self) (ap (λ (w : StripeState g.row.V.Denot). w.room) c.self.view_is)
    (room_rises c.self.inside c.self.invariant _ _ (sym c.is_reserved.ensures ∙ c.if-is_reserved.false) c.put.ensures)
