use Rattle.std.proofs.Common.{◌≡◌, ◌+◌, ◌<◌, ◌≤◌, ◌++◌, ◌∙◌, List, ap, length, map, sym, append-nil, refl, arith}
use Rattle.std.specs.Prelude.{slice_index_or, vec_capacity}
use Rattle.std.proofs.lemmas.List.{get_or_default, take_all}
use Rattle.ck_model.specs.declared.contents.Content.{Content}
use Rattle.ck_model.specs.Listing.{named}
use Rattle.ck_model.specs.Contents.{pairs_in, pairs_of}
use Rattle.ck_stripe.specs.Stripe.{StripeState}
use Rattle.ck_stripe.specs.Stripes.{no_stripe, stripe_at, contents_of}
use Rattle.ck_section.proofs.Cleared.{cleared, changes_cleared, clears}
use Rattle.ck_stripe.proofs.Stepwise.{changed-long, changed-read, changed-more, changed-done}
use Rattle.ck_stripe.proofs.Totals.{room_for_stripe}
use Rattle.ck_section.proofs.Table.{pairs_more}
use Rattle.ck_section.proofs.drain.drain_reserved.Given.{Over}
use Rattle.ck_section.proofs.drain.drain_reserved.Goals.{After-index-stripes-i}
use Rattle.ck_section.proofs.drain.drain_reserved.Goals as goal

pub loop-i-init : goal.loop-i-init
loop-i-init g c = record { drained = refl; seen = sym (append-nil _); room = refl }

-- the next stripe is as it was
undrained : (g : Over) (c : After-index-stripes-i g) → (c.loop-i.i < length c.args.stripes.now) × (slice_index_or c.loop-i.stripes c.loop-i.i c.index-stripes-i.result ≡ stripe_at c.args.stripes.now c.loop-i.i)
undrained g c =
    let old : List (StripeState g.row.V.Denot) = c.args.stripes.now in
    let long = changed-long cleared c.loop-i.i old _ c.loop-i.invariant.drained in
    let within : c.loop-i.i < length old = omega arith in
    (within, changed-read cleared c.loop-i.i old c.loop-i.stripes c.loop-i.invariant.drained c.index-stripes-i.result no_stripe within)

pub drain_reserved-requires : goal.drain_reserved-requires
drain_reserved-requires g c =
    let old : List (StripeState g.row.V.Denot) = c.args.stripes.now in
    let i = c.loop-i.i in
    let read = undrained g (goal.at.drain_reserved-requires g c).After-index-stripes-i in
    let same = ap (λ (x : StripeState g.row.V.Denot). length (pairs_in x.content)) read.1 in
    let start = c.args.pairs.now.ok.0 in
    let now = c.loop-i.pairs.ok.0 in
    let enough : length c.args.pairs.now.items + length (pairs_of (contents_of old)) + 4 ≤ vec_capacity c.loop-i.pairs = omega (arith, c.requires.room, c.loop-i.invariant.room) in
    let left = room_for_stripe g.K.TableKey.name c.loop-i.pairs.items c.args.pairs.now.items i (vec_capacity c.loop-i.pairs) old (stripe_at old i) read.0 (get_or_default old i no_stripe (stripe_at old i) read.0) c.loop-i.invariant.seen enough in
    record { settled = ap (λ (x : StripeState g.row.V.Denot). x.settled) read.1 ∙ c.requires.settled i read.0; room = omega arith }

pub loop-i-preserved : goal.loop-i-preserved
loop-i-preserved g c =
    let old : List (StripeState g.row.V.Denot) = c.args.stripes.now in
    let i = c.loop-i.i in
    let read = undrained g (goal.at.loop-i-preserved g c).After-index-stripes-i in
    let was : StripeState g.row.V.Denot = slice_index_or c.loop-i.stripes i c.index-stripes-i.result in
    let emptied : c.drain_reserved.new.self ≡ cleared was = c.drain_reserved.ensures.rest ∙ ap (λ (x : Content g.row.V.Denot). record was { content = x }) c.drain_reserved.ensures.content in
    record {
      drained = changed-more cleared i old c.loop-i.stripes c.loop-i.invariant.drained c.index-stripes-i.result c.drain_reserved.new.self emptied;
      seen = pairs_more g.K.TableKey.name c.loop-i.pairs.items c.drain_reserved.new.pairs.items c.args.pairs.now.items i old was read.0 read.1 c.loop-i.invariant.seen c.drain_reserved.ensures.pairs;
      room = c.drain_reserved.ensures.capacity ∙ c.loop-i.invariant.room;
    }

all_cleared : (g : Over) (c : goal.After-loop-i g) → c.loop-i.stripes ≡ map cleared c.args.stripes.now
all_cleared g c = changed-done cleared c.loop-i.i c.args.stripes.now c.loop-i.stripes c.loop-i.invariant.drained (omega arith)

pub returns-clause-pairs : goal.returns-clause-pairs
returns-clause-pairs g c =
    c.loop-i.invariant.seen
    ∙ ap (λ (l : List (StripeState g.row.V.Denot)). map (named g.K.TableKey.name) c.args.pairs.now.items ++ pairs_of (contents_of l)) (take_all c.loop-i.i c.args.stripes.now (omega arith))

pub returns-clause-cleared : goal.returns-clause-cleared
returns-clause-cleared g c = λ s max table. clears c.args.stripes.now c.loop-i.stripes (all_cleared g c) s table g.K.TableKey.hash max

pub returns-clause-changes : goal.returns-clause-changes
returns-clause-changes g c = changes_cleared c.args.stripes.now c.loop-i.stripes (all_cleared g c)
