use Rattle.std.proofs.Common.{refl, ap, length, arith}
use Rattle.std.specs.Option.{option_to_list}
use Rattle.ck_model.specs.Slots.{Slot}
use Rattle.ck_stripe.proofs.Stored.{kept_written, content_set}
use Rattle.ck_stripe.proofs.stripe.Stripe.put.Goals as goal

pub invariant_of-self : goal.invariant_of-self
invariant_of-self g c = kept_written g.K.TableKey.hash c.self.inside c.self.invariant _ c.self.view_is c.requires.settled c.args.b _ c.args.slot c.row-row.ensures.value c.row-row.ensures.below c.requires.below _ _ c.put.ensures _ refl

pub returns-clause-content : goal.returns-clause-content
returns-clause-content g c =
    let free = ap (λ (o : Slot g.row.V.Denot). length (option_to_list o)) c.requires.free in
    content_set g.K.TableKey.hash c.self.inside c.self.invariant _ c.self.view_is c.requires.settled c.args.b _ c.args.slot c.row-row.ensures.value c.row-row.ensures.below c.requires.below _ _ c.put.ensures _ refl _ (λ n counts. omega arith)
