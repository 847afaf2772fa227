use Rattle.std.proofs.Common.{rules, ◌≡◌, ◌∙◌, ℕ, map, sym, ap, subst}
use Rattle.ck_section.specs.Places.{HasBoth}
use Rattle.ck_section.specs.RoomForAll.{HaveRoomForAll}
use Rattle.ck_core.specs.State.{found_held}
use Rattle.ck_words.specs.Passes.{PassState}
use Rattle.cuckoo_map.specs.SeveralKeys.{HoldsNames}
use Rattle.cuckoo_map.proofs.HeldKeys.{same_pass}
use Rattle.cuckoo_map.proofs.RoomForKeys.{renewed_as_taken, ends_home, found_home, lacks_room}
use Rattle.cuckoo_map.proofs.table.Table.lock_if_room.Goals as goal

pub has_room_for_all-requires-clause-owned : goal.has_room_for_all-requires-clause-owned
has_room_for_all-requires-clause-owned g c q i =
    let h = c.in_ok-stripes.ensures.held in
    subst (λ (s : ℕ). HasBoth g.K.TableKey.hash s c.lock_different.new.pass.stripes q) (sym h.of_table) (h.owned q i)

-- there is room
pub returns-then-has_room_for_all-clause-answered : goal.returns-then-has_room_for_all-clause-answered
returns-then-has_room_for_all-clause-answered g c =
    let p1 = c.lock_different.new.pass in
    let z = c.has_room_for_all.new.held.pass.now in
    let names = map (λ k. g.K.TableKey.name k.now) c.args.keys.now in
    let h = c.in_ok-stripes.ensures.held in
    let e = c.has_room_for_all.ensures in
    let there : z ≡ c.pass-1.given.0 = search rules in
    let room : HaveRoomForAll g.K.TableKey.hash c.args.self.now.settings.s p1.stripes names =
    subst (λ (s : ℕ). HaveRoomForAll g.K.TableKey.hash s p1.stripes names) h.of_table c.if-has_room_for_all.ensures.room in
    rw (← there) (subst (λ (x : PassState g.row.V.Denot). HoldsNames g.K.TableKey.hash c.args.self.now.settings names c.in_ok-stripes.stripes c.args.pass.now x × HaveRoomForAll g.K.TableKey.hash c.args.self.now.settings.s x.stripes names)
    (sym (same_pass p1 z e.stays.1 e.stays.2 e.same)) (h, room))

-- there is none
pub renew-requires-clause-renewed : goal.renew-requires-clause-renewed
renew-requires-clause-renewed g c =
    let e = c.has_room_for_all.ensures in
    renewed_as_taken c.args.pass.now c.lock_different.new.pass c.has_room_for_all.new.held.pass.now c.requires.caller c.lock_different.ensures.own c.in_ok-stripes.ensures.different c.in_ok-stripes.ensures.held e.stays.1 e.stays.2 e.same (e.stays.5 ∙ c.self.view_is)

pub returns-clause-answered : goal.returns-clause-answered
returns-clause-answered g c =
    let e = c.has_room_for_all.ensures in
    let z = c.renew.new.self.pass.now in
    let r = c.renew.ensures in
    let there : z ≡ c.pass-2-1.given.0 = search rules in
    let is = e.stays.5 ∙ c.self.view_is in
    let p = c.args.pass.now in
    let p1 = c.lock_different.new.pass in
    let p2 = c.has_room_for_all.new.held.pass.now in
    let own = c.lock_different.ensures.own in
    let different = c.in_ok-stripes.ensures.different in
    let h = c.in_ok-stripes.ensures.held in
    rw (← there) (
      ends_home p p1 p2 c.requires.caller own different h e.stays.1 e.stays.2 e.same is z r.released r.doubled,
      lacks_room p p1 p2 c.requires.caller own different h e.stays.1 e.stays.2 e.same is z r.released r.doubled c.lock_different.ensures.found c.if-has_room_for_all.ensures.no_room,
    )

pub returns-clause-found : goal.returns-clause-found
returns-clause-found g c =
    let e = c.has_room_for_all.ensures in
    let z = c.renew.new.self.pass.now in
    let r = c.renew.ensures in
    let there : z ≡ c.pass-2-1.given.0 = search rules in
    let found = found_home c.args.pass.now c.lock_different.new.pass c.has_room_for_all.new.held.pass.now c.requires.caller c.lock_different.ensures.own c.in_ok-stripes.ensures.different c.in_ok-stripes.ensures.held
    e.stays.1 e.stays.2 e.same (e.stays.5 ∙ c.self.view_is) z r.released r.doubled c.lock_different.ensures.found in
    rw (← there) found

pub returns-then-has_room_for_all-clause-found : goal.returns-then-has_room_for_all-clause-found
returns-then-has_room_for_all-clause-found g c =
    let z = c.has_room_for_all.new.held.pass.now in
    let f = c.lock_different.ensures.found in
    let there : z ≡ c.pass-1.given.0 = search rules in
    rw (← there) (f.0, ap found_held c.has_room_for_all.ensures.stays.1 ∙ f.1, f.2)
