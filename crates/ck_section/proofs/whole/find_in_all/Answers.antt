use Rattle.std.proofs.Common.{List, sym, subst}
use Rattle.ck_bucket.specs.Bucket.{LacksName}
use Rattle.ck_stripe.specs.Stripe.{StripeState, bucket_of}
use Rattle.ck_stripe.proofs.Tables.{stripe_read}
use Rattle.ck_section.proofs.AllStripes.{found_first, not_found_once, found_then}
use Rattle.ck_section.proofs.whole.find_in_all.Goals as goal

pub returns-in-Some : goal.returns-in-Some
returns-in-Some g c =
    let stripes : List (StripeState g.row.V.Denot) = c.args.stripes.now in
    let first = stripe_read stripes c.args.place.first.index c.index-stripes-first.result c.requires.first_reach.inside c.index-stripes-first.is in
    found_first g.K.TableKey.hash stripes (g.Q.Query.name c.args.key) c.args.place c.requires c.index-stripes-first.result first c.in-Some.value.now c.in-Some.ensures.found

pub returns-then-alternate-first : goal.returns-then-alternate-first
returns-then-alternate-first g c =
    let stripes : List (StripeState g.row.V.Denot) = c.args.stripes.now in
    let q = g.Q.Query.name c.args.key in
    let first = stripe_read stripes c.args.place.first.index c.index-stripes-first.result c.requires.first_reach.inside c.index-stripes-first.is in
    let lacks = subst (λ (t : StripeState g.row.V.Denot). LacksName (bucket_of t c.args.place.first.bucket) q) first c.in_default.ensures.absent in
    not_found_once g.K.TableKey.hash stripes q c.args.place c.requires lacks (sym c.if-alternate-first.true)

pub returns : goal.returns
returns g c =
    let stripes : List (StripeState g.row.V.Denot) = c.args.stripes.now in
    let q = g.Q.Query.name c.args.key in
    let first = stripe_read stripes c.args.place.first.index c.index-stripes-first.result c.requires.first_reach.inside c.index-stripes-first.is in
    let lacks = subst (λ (t : StripeState g.row.V.Denot). LacksName (bucket_of t c.args.place.first.bucket) q) first c.in_default.ensures.absent in
    let second = stripe_read stripes c.args.place.alternate.index c.index-stripes-alternate.result c.requires.alternate_reach.inside c.index-stripes-alternate.is in
    found_then g.K.TableKey.hash stripes q c.args.place c.requires lacks c.index-stripes-alternate.result second c.value_in-2.result c.value_in-2.ensures.found c.value_in-2.ensures.absent
