use Rattle.std.proofs.Common.{◌≡◌, List, map}
use Rattle.ck_model.specs.Contents.{layout, Stripes}
use Rattle.ck_stripe.specs.Stripe.{StripeState}
use Rattle.ck_section.specs.HeldBuckets.{numbers_of}
use Rattle.ck_section.specs.RoomForAll.{coming}
use Rattle.ck_section.proofs.RoomTested.{owned_still, lawful_still, fits}
use Rattle.ck_section.proofs.room_for_all.has_slots_in.Goals as goal

pub count_coming-requires-clause-owned : goal.count_coming-requires-clause-owned
count_coming-requires-clause-owned g c =
    owned_still g.K.TableKey.hash c.args.s (g.H.Held.stripes c.args.held.now) (g.H.Held.stripes c.free_slots-free.new.held) c.free_slots-free.ensures.same (map g.Q.Query.name c.args.keys.now) c.requires.owned

pub returns-clause-slots : goal.returns-clause-slots
returns-clause-slots g c max lawful =
    let old : List (StripeState g.row.V.Denot) = g.H.Held.stripes c.args.held.now in
    let names = map g.Q.Query.name c.args.keys.now in
    let at = c.args.at.now in
    fits g.K.TableKey.hash c.args.s max old lawful c.requires.held.one_s at c.requires.reach names c.count_coming.result c.free_slots-free.result
    (lawful_still g.K.TableKey.hash c.args.s max old (g.H.Held.stripes c.free_slots-free.new.held) c.free_slots-free.ensures.same
    (λ (hs : Stripes g.row.V.Denot). c.count_coming.result ≡ coming (layout g.K.TableKey.hash c.args.s max) hs (numbers_of at) names) (c.count_coming.ensures.count max) lawful)
    c.free_slots-free.ensures.count
