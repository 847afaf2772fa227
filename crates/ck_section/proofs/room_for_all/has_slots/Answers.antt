use Rattle.std.proofs.Common.{◌↔◌, List, ◌∙◌, map}
use Rattle.std.specs.Prelude.{IsTrue}
use Rattle.ck_model.specs.Promise.{Name}
use Rattle.ck_model.specs.Contents.{Layout, layout}
use Rattle.ck_stripe.specs.Stripe.{StripeState}
use Rattle.ck_stripe.specs.Stripes.{contents_of}
use Rattle.ck_section.proofs.RoomTested.{owned_still, lawful_still, HasInOne, HasInBoth, finds, yes_first, yes_second}
use Rattle.ck_section.proofs.room_for_all.has_slots.Goals as goal

pub has_slots_in_one-requires-clause-owned : goal.has_slots_in_one-requires-clause-owned
has_slots_in_one-requires-clause-owned g c =
    owned_still g.K.TableKey.hash c.args.s (g.H.Held.stripes c.args.held.now) (g.H.Held.stripes c.key_place-place.new.held) c.key_place-place.ensures.same (map g.Q.Query.name c.args.keys.now) c.requires.owned

pub has_slots_in_both-requires-clause-owned : goal.has_slots_in_both-requires-clause-owned
has_slots_in_both-requires-clause-owned g c =
    owned_still g.K.TableKey.hash c.args.s (g.H.Held.stripes c.args.held.now) (g.H.Held.stripes c.has_slots_in_one.new.held) (c.has_slots_in_one.ensures.same ∙ c.key_place-place.ensures.same) (map g.Q.Query.name c.args.keys.now) c.requires.owned

pub returns-then-has_slots_in_one-clause-slots : goal.returns-then-has_slots_in_one-clause-slots
returns-then-has_slots_in_one-clause-slots g c max lawful =
    let old : List (StripeState g.row.V.Denot) = g.H.Held.stripes c.args.held.now in
    let k : Layout = layout g.K.TableKey.hash c.args.s max in
    let names : List Name = map g.Q.Query.name c.args.keys.now in
    let place = c.key_place-place in
    let one = c.has_slots_in_one in
    let in_one : IsTrue one.result ↔ HasInOne k names place.result (contents_of old) =
    lawful_still g.K.TableKey.hash c.args.s max old (g.H.Held.stripes place.new.held) place.ensures.same (λ hs. IsTrue one.result ↔ HasInOne k names place.result hs) (one.ensures.slots max) lawful in
    finds g.K.TableKey.hash c.args.s max old lawful (g.Q.Query.name c.args.key) place.result place.ensures.place names one.result
    (yes_first one.result _ (HasInBoth k names place.result (contents_of old)) in_one c.if-has_slots_in_one.true)

pub returns-else-has_slots_in_one-clause-slots : goal.returns-else-has_slots_in_one-clause-slots
returns-else-has_slots_in_one-clause-slots g c max lawful =
    let old : List (StripeState g.row.V.Denot) = g.H.Held.stripes c.args.held.now in
    let k : Layout = layout g.K.TableKey.hash c.args.s max in
    let names : List Name = map g.Q.Query.name c.args.keys.now in
    let place = c.key_place-place in
    let one = c.has_slots_in_one in
    let both = c.has_slots_in_both in
    let in_one : IsTrue one.result ↔ HasInOne k names place.result (contents_of old) =
    lawful_still g.K.TableKey.hash c.args.s max old (g.H.Held.stripes place.new.held) place.ensures.same (λ hs. IsTrue one.result ↔ HasInOne k names place.result hs) (one.ensures.slots max) lawful in
    let in_both : IsTrue both.result ↔ HasInBoth k names place.result (contents_of old) =
    lawful_still g.K.TableKey.hash c.args.s max old (g.H.Held.stripes one.new.held) (one.ensures.same ∙ place.ensures.same) (λ hs. IsTrue both.result ↔ HasInBoth k names place.result hs) (both.ensures.slots max) lawful in
    finds g.K.TableKey.hash c.args.s max old lawful (g.Q.Query.name c.args.key) place.result place.ensures.place names both.result
    (yes_second one.result both.result _ _ in_one in_both c.if-has_slots_in_one.false)
