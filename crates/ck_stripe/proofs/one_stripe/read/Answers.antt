use Rattle.std.proofs.Common.{rules, ◌∙◌, ap, sym, subst}
use Rattle.std.proofs.lemmas.Option.{some_pair_parts}
use Rattle.std.specs.Fn.{FnOnceReturnsAt}
use Rattle.ck_model.specs.Slots.{slot_at}
use Rattle.ck_stripe.specs.Stripe.{StripeState, bucket_of}
use Rattle.ck_stripe.specs.Stripes.{no_stripe}
use Rattle.ck_stripe.specs.Reading.{ReadsSlot}
use Rattle.ck_stripe.proofs.one_stripe.read.Goals as goal

pub returns-clause-read : goal.returns-clause-read
returns-clause-read g c n w e =
    let v = c.visit_bucket.ensures.visited no_stripe in
    let read : ReadsSlot g.F.FnOnce c.args.f (slot_at (bucket_of v.shown.now c.args.at.bucket) c.args.at.slot) c.visit_bucket.result = search rules in
    let same = some_pair_parts _ _ _ _ (sym read.there ∙ (ap (λ (t : StripeState g.row.V.Denot). slot_at (bucket_of t c.args.at.bucket) c.args.at.slot) v.shows ∙ e)) in
    subst (λ (x : g.row.V.Denot). FnOnceReturnsAt g.F.FnOnce c.args.f x c.visit_bucket.result) same.1 read.says
