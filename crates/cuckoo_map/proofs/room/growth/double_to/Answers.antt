use Rattle.std.proofs.Common.{◌≡◌, ℕ, ◌+◌, ◌<◌, List, ◌∙◌, ap, arith}
use Rattle.ck_stripe.specs.Stripe.{StripeState}
use Rattle.ck_stripe.specs.Tables.{power_in}
use Rattle.ck_stripe.specs.Stripes.{contents_of}
use Rattle.cuckoo_map.proofs.Growing.{settles_table, power_next, keeps_contents, keeps_more, reached_by}
use Rattle.cuckoo_map.proofs.room.growth.double_to.Goals as goal

pub double_all-requires-clause-table : goal.double_all-requires-clause-table
double_all-requires-clause-table g c = (settles_table c.args.s _ _ c.doublings.invariant.table c.settle_all.ensures.settled).table

pub double_all-requires-clause-settled : goal.double_all-requires-clause-settled
double_all-requires-clause-settled g c = (settles_table c.args.s _ _ c.doublings.invariant.table c.settle_all.ensures.settled).settled

pub doublings-preserved : goal.doublings-preserved
doublings-preserved g c =
    let hash = g.K.TableKey.hash in
    let old : List (StripeState g.row.V.Denot) = g.H.Held.stripes c.args.held.now in
    let cur : List (StripeState g.row.V.Denot) = g.H.Held.stripes c.doublings.held in
    let mid : List (StripeState g.row.V.Denot) = g.H.Held.stripes c.settle_all.new.held in
    let new : List (StripeState g.row.V.Denot) = g.H.Held.stripes c.double_all.new.held in
    let s : ℕ = c.args.s in
    let was = settles_table s cur mid c.doublings.invariant.table c.settle_all.ensures.settled in
    let level : power_in mid ≡ c.doublings.counter = was.power ∙ c.doublings.invariant.power in
    let below : power_in mid < c.args.power = omega arith in
    let next : power_in new ≡ power_in mid + 1 = power_next s hash mid new was.table c.in_ok-double_all.ensures.doubled in
    let on = g.met.H.Held.stays_on in
    record {
      table = c.double_all.ensures.table;
      power = omega arith;
      same = λ high. absurd (omega arith);
      no_call = keeps_more s hash c.args.power old mid new (keeps_contents s hash c.args.power old cur mid c.doublings.invariant.no_call was.contents) below c.in_ok-double_all.ensures.grown;
      stays = on _ _ _ c.doublings.invariant.stays (on _ _ _ c.settle_all.ensures.stays c.double_all.ensures.stays);
    }

pub returns-in_err-double_all-clause-no_call : goal.returns-in_err-double_all-clause-no_call
returns-in_err-double_all-clause-no_call g c =
    let hash = g.K.TableKey.hash in
    let old : List (StripeState g.row.V.Denot) = g.H.Held.stripes c.args.held.now in
    let cur : List (StripeState g.row.V.Denot) = g.H.Held.stripes c.doublings.held in
    let mid : List (StripeState g.row.V.Denot) = g.H.Held.stripes c.settle_all.new.held in
    let new : List (StripeState g.row.V.Denot) = g.H.Held.stripes c.double_all.new.held in
    let was = settles_table c.args.s cur mid c.doublings.invariant.table c.settle_all.ensures.settled in
    keeps_contents c.args.s hash c.args.power old cur new c.doublings.invariant.no_call (ap contents_of c.in_err-double_all.ensures.kept ∙ was.contents)

pub returns-clause-reached : goal.returns-clause-reached
returns-clause-reached g c =
    let old : List (StripeState g.row.V.Denot) = g.H.Held.stripes c.args.held.now in
    let new : List (StripeState g.row.V.Denot) = g.H.Held.stripes c.doublings.held in
    reached_by c.args.s c.power-before.result c.args.power c.doublings.counter old new c.power-before.ensures.value c.doublings.invariant.power c.doublings.auto.counter c.doublings.auto.counter-end c.doublings-test.false c.doublings.invariant.same
