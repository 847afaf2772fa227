use Rattle.std.proofs.Common.{◌↔◌, List, [], ◌∷◌, map}
use Rattle.std.specs.Prelude.{IsTrue}
use Rattle.ck_model.specs.Promise.{Name}
use Rattle.ck_model.specs.Contents.{Layout, layout, Stripes}
use Rattle.ck_stripe.specs.Stripe.{StripeState}
use Rattle.ck_section.specs.RoomForAll.{HasSlots}
use Rattle.ck_section.proofs.RoomTested.{owned_still, lawful_still, yes_first, yes_second}
use Rattle.ck_section.proofs.room_for_all.has_slots_in_one.Goals as goal

pub has_slots_in-requires-else-has_slots_in-clause-owned : goal.has_slots_in-requires-else-has_slots_in-clause-owned
has_slots_in-requires-else-has_slots_in-clause-owned g c =
    owned_still g.K.TableKey.hash c.args.s (g.H.Held.stripes c.args.held.now) (g.H.Held.stripes c.has_slots_in.new.held) c.has_slots_in.ensures.same (map g.Q.Query.name c.args.keys.now) c.requires.owned

pub returns-then-has_slots_in-clause-slots : goal.returns-then-has_slots_in-clause-slots
returns-then-has_slots_in-clause-slots g c max lawful =
    yes_first c.has_slots_in.result _ _ (c.has_slots_in.ensures.slots max lawful) c.if-has_slots_in.true

pub returns-else-has_slots_in-clause-slots : goal.returns-else-has_slots_in-clause-slots
returns-else-has_slots_in-clause-slots g c max lawful =
    let old : List (StripeState g.row.V.Denot) = g.H.Held.stripes c.args.held.now in
    let k : Layout = layout g.K.TableKey.hash c.args.s max in
    let names : List Name = map g.Q.Query.name c.args.keys.now in
    let alternate = c.has_slots_in-else-has_slots_in in
    yes_second c.has_slots_in.result alternate.result _ _ (c.has_slots_in.ensures.slots max lawful)
    (lawful_still g.K.TableKey.hash c.args.s max old (g.H.Held.stripes c.has_slots_in.new.held) c.has_slots_in.ensures.same
    (λ (hs : Stripes g.row.V.Denot). IsTrue alternate.result ↔ HasSlots k hs names (c.args.place.alternate.bucket ∷ [])) (alternate.ensures.slots max) lawful)
    c.if-has_slots_in.false
