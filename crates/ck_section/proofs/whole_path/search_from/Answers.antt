use Rattle.std.proofs.Common.{ℕ, List, refl, ◌∙◌}
use Rattle.ck_model.specs.Sketches.{Sketch}
use Rattle.ck_stripe.specs.Stripe.{StripeState}
use Rattle.ck_section.specs.Room.{sketch_of}
use Rattle.ck_section.proofs.Searched.{is_four, shows, passes, seen_four}
use Rattle.ck_section.proofs.whole_path.search_from.Goals as goal

pub loop-bucket-init : goal.loop-bucket-init
loop-bucket-init g c = record {
  power = c.start-search.ensures.power;
  fed = c.start-search.ensures.fed _;
  over = c.start-search.ensures.over _;
  same = refl;
  stays = g.met.H.Held.stays_same _;
}

pub returns-in-Some-feed-clause-path : goal.returns-in-Some-feed-clause-path
returns-in-Some-feed-clause-path g c =
    c.in-Some-feed.ensures.path c.args.power c.args.first c.args.second _ c.loop-bucket.invariant.over
    (shows g.K.TableKey.hash c.args.s (g.H.Held.stripes c.args.held.now) (g.H.Held.stripes c.loop-bucket.held) c.requires.held.table.many c.loop-bucket.invariant.same c.loop-bucket.search c.in-Some.bucket c.in-Some.ensures.value
    c.sketch-sketch.result c.sketch-sketch.ensures.value)

pub returns-in-Some-feed-clause-four : goal.returns-in-Some-feed-clause-four
returns-in-Some-feed-clause-four g c =
    seen_four (sketch_of g.K.TableKey.hash c.args.s (g.H.Held.stripes c.args.held.now)) c.args.power c.args.first c.args.second c.in-Some-feed.path
    (c.in-Some-feed.ensures.seen c.args.power c.args.first c.args.second (is_four (sketch_of g.K.TableKey.hash c.args.s (g.H.Held.stripes c.args.held.now))) c.loop-bucket.invariant.fed
    (passes g.K.TableKey.hash c.args.s (g.H.Held.stripes c.args.held.now) (g.H.Held.stripes c.loop-bucket.held) c.requires.held.table.many c.loop-bucket.invariant.same c.loop-bucket.search c.in-Some.bucket c.in-Some.ensures.value
    c.sketch-sketch.result c.sketch-sketch.ensures.four))

pub loop-bucket-preserved : goal.loop-bucket-preserved
loop-bucket-preserved g c =
    let hash = g.K.TableKey.hash in
    let s : ℕ = c.args.s in
    let old : List (StripeState g.row.V.Denot) = g.H.Held.stripes c.args.held.now in
    let cur : List (StripeState g.row.V.Denot) = g.H.Held.stripes c.loop-bucket.held in
    let known = c.loop-bucket.invariant in
    let few = c.requires.held.table.many in
    let sketches : ℕ → Sketch = sketch_of hash s old in
    record {
      power = c.in_default-feed.ensures.power ∙ known.power;
      fed = c.in_default-feed.ensures.seen c.args.power c.args.first c.args.second (is_four sketches) known.fed
          (passes hash s old cur few known.same c.loop-bucket.search c.in-Some.bucket c.in-Some.ensures.value c.sketch-sketch.result c.sketch-sketch.ensures.four);
      over = c.in_default-feed.ensures.path c.args.power c.args.first c.args.second sketches known.over
          (shows hash s old cur few known.same c.loop-bucket.search c.in-Some.bucket c.in-Some.ensures.value c.sketch-sketch.result c.sketch-sketch.ensures.value);
      same = c.sketch-sketch.ensures.same ∙ known.same;
      stays = g.met.H.Held.stays_on _ _ _ known.stays c.sketch-sketch.ensures.stays;
    }

pub returns-clause-none : goal.returns-clause-none
returns-clause-none g c = c.in_default.ensures.none c.args.power c.args.first c.args.second _ c.loop-bucket.invariant.over
