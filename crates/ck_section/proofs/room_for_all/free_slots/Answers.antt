use Rattle.std.proofs.Common.{◌≡◌, ◌+◌, ◌*◌, List, length, take, ◌∙◌, ap, arith}
use Rattle.std.proofs.lemmas.List.{take_all}
use Rattle.ck_model.specs.Slots.{taken_in}
use Rattle.ck_stripe.specs.Stripe.{StripeState}
use Rattle.ck_stripe.specs.Stripes.{bucket_at}
use Rattle.ck_section.specs.declared.place.HeldBucket.{HeldBucket}
use Rattle.ck_section.specs.HeldBuckets.{pairs_there}
use Rattle.ck_section.proofs.RoomTested.{bucket_of, there_more}
use Rattle.ck_section.proofs.room_for_all.free_slots.Goals as goal

pub loop-i-preserved : goal.loop-i-preserved
loop-i-preserved g c =
    let l = c.loop-i.invariant in
    let old : List (StripeState g.row.V.Denot) = g.H.Held.stripes c.args.held.now in
    let now : List (StripeState g.row.V.Denot) = g.H.Held.stripes c.loop-i.held in
    let b : HeldBucket = bucket_of c.args.at.now c.loop-i.i in
    let count : c.free_slots_in-free.result + length (taken_in (bucket_at now b.index b.bucket)) ≡ 4 = c.free_slots_in-free.ensures.count in
    let same : length (taken_in (bucket_at now b.index b.bucket)) ≡ length (taken_in (bucket_at old b.index b.bucket)) = ap (λ (ss : List (StripeState g.row.V.Denot)). length (taken_in (bucket_at ss b.index b.bucket))) l.same in
    let was : c.loop-i.free + length (pairs_there old (take c.loop-i.i c.args.at.now)) ≡ 4 * c.loop-i.i = l.so_far in
    let more : length (pairs_there old (take (c.loop-i.i + 1) c.args.at.now)) ≡ length (pairs_there old (take c.loop-i.i c.args.at.now)) + length (taken_in (bucket_at old b.index b.bucket)) = there_more old c.args.at.now c.loop-i.i (omega arith) in
    record {
      same = c.free_slots_in-free.ensures.same ∙ l.same;
      stays = g.met.H.Held.stays_on _ _ _ l.stays c.free_slots_in-free.ensures.stays;
      so_far = omega (arith, count, same, was, more);
    }

pub returns-clause-count : goal.returns-clause-count
returns-clause-count g c =
    let old : List (StripeState g.row.V.Denot) = g.H.Held.stripes c.args.held.now in
    let was : c.loop-i.free + length (pairs_there old (take c.loop-i.i c.args.at.now)) ≡ 4 * c.loop-i.i = c.loop-i.invariant.so_far in
    let all : length (pairs_there old (take c.loop-i.i c.args.at.now)) ≡ length (pairs_there old c.args.at.now) = ap (λ (l : List HeldBucket). length (pairs_there old l)) (take_all c.loop-i.i c.args.at.now (omega arith)) in
    omega (arith, was, all)
