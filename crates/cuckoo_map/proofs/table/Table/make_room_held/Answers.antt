use Rattle.std.proofs.Common.{rules, ◌≡◌, ◌∙◌, List, reverse, sym, ap, subst}
use Rattle.ck_model.specs.Contents.{layout_of, Lawful}
use Rattle.ck_model.specs.Paths.{Grounds, reason_of_lack}
use Rattle.ck_model.specs.declared.lack.Lack.{Lack}
use Rattle.ck_stripe.specs.Stripes.{contents_of}
use Rattle.ck_section.proofs.Tables.{err_maps}
use Rattle.ck_stripe.specs.Stripe.{StripeState}
use Rattle.cuckoo_map.specs.Needed.{HoldsGrown}
use Rattle.cuckoo_map.proofs.Counted.{holds_settled}
use Rattle.cuckoo_map.proofs.Rooms.{grounds_there, has_entry, lawful_taken, grown_there}
use Rattle.cuckoo_map.proofs.table.Table.make_room_held.Given.{Over}
use Rattle.cuckoo_map.proofs.table.Table.make_room_held.Goals as goal

pub returns-in_err-make_room-clause-grounds : goal.returns-in_err-make_room-clause-grounds
returns-in_err-make_room-clause-grounds g c =
    let hash = g.K.TableKey.hash in
    let set = c.args.self.now.settings in
    let q = g.K.TableKey.name c.args.key.now in
    let z = c.make_room.new.held.pass.now in
    let lack = c.in_err-make_room.field-0.0 in
    let R : Lack → Type 0 = λ l. Lawful (layout_of hash set) (reverse z.view.held) → Grounds (layout_of hash set) set.min_load (contents_of z.stripes) q (reason_of_lack l) in
    let said : R lack = grounds_there c.self.view_is c.settings-s.ensures.value q c.args.pass.now c.requires.whole z c.make_room.ensures.stays.1 c.make_room.ensures.no_call lack c.in_err-make_room.ensures.refused in
    let there : z ≡ c.in_err-make_room.pass-1-own.given.0 = search rules in
    rw (← there) (err_maps c.from_residual.result _ R (λ why is. subst R (sym is) said) c.from_residual.ensures.1)

pub unreachable-requires : goal.unreachable-requires
unreachable-requires g c =
    let made = c.make_room in
    let place = c.settled_place-place in
    let lawful = lawful_taken c.self.view_is c.settings-s.ensures.value (g.K.TableKey.name c.args.key.now) c.args.pass.now c.requires.whole in
    has_entry c.settings-s.result c.args.pass.now.stripes made.new.held.pass.now.stripes lawful made.ensures.no_call c.in_ok-make_room.ensures.room place.result.s place.new.held.pass.now.stripes place.ensures.s place.ensures.same c.in_default.ensures.no_room

-- where none could be made
pub returns-in_err-make_room-clause-grown : goal.returns-in_err-make_room-clause-grown
returns-in_err-make_room-clause-grown g c =
    let z = c.make_room.new.held.pass.now in
    let there : z ≡ c.in_err-make_room.pass-1-own.given.0 = search rules in
    rw (← there) (grown_there c.self.view_is c.settings-s.ensures.value (g.K.TableKey.name c.args.key.now) c.args.pass.now c.requires.whole z c.make_room.ensures.stays.1 c.make_room.ensures.no_call c.requires.own.1 c.requires.table c.make_room.ensures.table c.make_room.ensures.doubled)

-- where it was, and the place of the key was settled
grown : (g : Over) (c : goal.In-Some g) → HoldsGrown {V = g.row.V.Denot} g.K.TableKey.hash c.args.self.now.settings (g.K.TableKey.name c.args.key.now) c.find_entry.new.held.pass.now
grown g c =
    let made = c.make_room in
    let place = c.settled_place-place in
    let entry = c.find_entry in
    holds_settled made.new.held.pass.now entry.new.held.pass.now (entry.ensures.stays.1 ∙ place.ensures.stays.1) (ap (λ (ss : List (StripeState g.row.V.Denot)). contents_of ss) entry.ensures.same ∙ place.ensures.same)
    (grown_there c.self.view_is c.settings-s.ensures.value (g.K.TableKey.name c.args.key.now) c.args.pass.now c.requires.whole made.new.held.pass.now made.ensures.stays.1 made.ensures.no_call c.requires.own.1 c.requires.table made.ensures.table made.ensures.doubled)

pub returns-clause-grown : goal.returns-clause-grown
returns-clause-grown g c =
    let there : c.find_entry.new.held.pass.now ≡ c.pass-2-1.given.0 = search rules in
    rw (← there) (grown g c)

pub returns-clause-room : goal.returns-clause-room
returns-clause-room g c =
    let there : c.find_entry.new.held.pass.now ≡ c.pass-2-1.given.0 = search rules in
    rw (← there) (record { numbered = search rules; at = search rules; s = search rules; of_table = search rules; entry = search rules; no_spare = search rules; renewed = search rules; grown = grown g c })
