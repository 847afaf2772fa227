use Rattle.std.proofs.Common.{rules, subst}
use Rattle.std.specs.Option.{IfNone}
use Rattle.ck_bucket.specs.Bucket.{LacksName}
use Rattle.ck_stripe.specs.Stripe.{StripeState, bucket_of}
use Rattle.ck_stripe.specs.Stripes.{no_stripe}
use Rattle.ck_stripe.proofs.one_stripe.look.Goals as goal

pub returns-clause-absent : goal.returns-clause-absent
returns-clause-absent g c =
    let v = c.visit_bucket.ensures.visited no_stripe in
    let Lacks : StripeState g.row.V.Denot → Type 0 = λ t. IfNone c.visit_bucket.result (LacksName (bucket_of t c.args.b) (g.Q.Query.name c.args.key)) in
    let there : Lacks v.shown.now = search rules in
    subst Lacks v.shows there
