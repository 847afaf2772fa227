use Rattle.std.proofs.Common.{arith}
use Rattle.ck_model.specs.Slots.{slot_at}
use Rattle.ck_stripe.specs.Stripe.{bucket_of}
use Rattle.ck_stripe.proofs.Writes.{one_full}
use Rattle.ck_stripe.proofs.Stored.{kept_written, content_read}
use Rattle.ck_stripe.proofs.stripe.Stripe.change.Goals as goal

pub invariant_of-self : goal.invariant_of-self
invariant_of-self g c = kept_written g.K.TableKey.hash c.self.inside c.self.invariant _ c.self.view_is c.requires.settled c.args.b _ c.args.slot c.row-row.ensures.value c.row-row.ensures.below c.requires.below _ _ c.change.ensures.rest _ c.change.ensures.entry.3.is

pub returns-clause-content : goal.returns-clause-content
returns-clause-content g c =
    let one = one_full (slot_at (bucket_of c.args.self.now c.args.b) c.args.slot) c.requires.full in
    content_read g.K.TableKey.hash c.self.inside c.self.invariant _ c.self.view_is c.requires.settled c.args.b _ c.args.slot c.row-row.ensures.value c.row-row.ensures.below c.requires.below _ _ c.change.ensures.rest _ c.change.ensures.entry.3.is _ (λ n counts. omega arith)
