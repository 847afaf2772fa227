use Rattle.std.proofs.Common.{rules, ◌≡◌, ◌∙◌, ap}
use Rattle.ck_stripe.specs.Stripes.{contents_of}
use Rattle.ck_core.specs.State.{found_held}
use Rattle.cuckoo_map.proofs.Refusing.{told_since, excused}
use Rattle.cuckoo_map.proofs.Rooms.{room_as_taken}
use Rattle.cuckoo_map.proofs.table.Table.find_room.Goals as goal

pub returns-in-Some-clause-room : goal.returns-in-Some-clause-room
returns-in-Some-clause-room g c =
    let z = c.find_entry.new.held.pass.now in
    let there : z ≡ c.in-Some.pass-1-own.given.0 = search rules in
    rw (← there) (room_as_taken c.args.since.now.value c.args.pass.now z c.requires.spot c.in-Some.entry c.in-Some.ensures.entry c.find_entry.ensures.same c.find_entry.ensures.stays.1)

pub returns-in-Some-clause-found : goal.returns-in-Some-clause-found
returns-in-Some-clause-found g c =
    let z = c.find_entry.new.held.pass.now in
    let f = c.requires.found in
    let there : z ≡ c.in-Some.pass-1-own.given.0 = search rules in
    rw (← there) (f.0, ap found_held (c.find_entry.ensures.stays.1) ∙ f.1, f.2)

pub refuse_full-requires-clause-full : goal.refuse_full-requires-clause-full
refuse_full-requires-clause-full g c =
    excused (c.power-power.ensures.stays.5 ∙ (c.find_entry.ensures.stays.5 ∙ c.self.view_is)) c.requires.spot.holds c.power-power.new.held.pass.now (c.power-power.ensures.same ∙ c.find_entry.ensures.same) c.in_default.ensures.no_room

pub returns-clause-found : goal.returns-clause-found
returns-clause-found g c =
    let z = c.refuse_full.new.self.pass.now in
    let f = c.requires.found in
    let there : z ≡ c.pass-2-1.given.0 = search rules in
    rw (← there) (f.0, c.refuse_full.ensures.refused.found ∙ (ap found_held (c.power-power.ensures.stays.1 ∙ c.find_entry.ensures.stays.1) ∙ f.1), f.2)

pub returns-clause-full : goal.returns-clause-full
returns-clause-full g c =
    let q = g.K.TableKey.name c.args.key.now in
    let lent = c.power-power.new.held.pass.now in
    let z = c.refuse_full.new.self.pass.now in
    let there : z ≡ c.pass-2-1.given.0 = search rules in
    let hs = contents_of lent.stripes in
    rw (← there) (hs, told_since q hs c.args.since.now.value c.args.pass.now lent z c.requires.spot.holds.stays (c.power-power.ensures.stays.1 ∙ c.find_entry.ensures.stays.1) c.refuse_full.ensures.refused.stays)
