use Rattle.std.proofs.Common.{rules, map, inl, inr, refl}
use Rattle.std.proofs.lemmas.Result.{err_from_is_err_and}
use Rattle.cuckoo_map.specs.RoomForKeys.{LacksRoomForAll}
use Rattle.cuckoo_map.proofs.Displacing.{any_on, any_among}
use Rattle.cuckoo_map.proofs.RoomForKeys.{tried_again}
use Rattle.cuckoo_map.proofs.table.Table.lock_with_room_for_each.Goals as goal

-- nothing was done
pub returns-in_err-stripes-clause-refused : goal.returns-in_err-stripes-clause-refused
returns-in_err-stripes-clause-refused g c =
    let e = err_from_is_err_and c.from_residual.result c.from_residual.ensures.1 in
    rw (e.1, e.2) (c.args.pass.now, inl refl, c.in_err-stripes.ensures.refused)

pub returns-in-Err-clause-found : goal.returns-in-Err-clause-found
returns-in-Err-clause-found g c = any_on c.args.pass.now c.lock_if_room.new.pass c.make_room_for_each.new.pass (any_among _ c.args.pass.now c.lock_if_room.new.pass c.lock_if_room.ensures.found) c.make_room_for_each.ensures.found

-- room was made for each
pub returns-in_err-lock_if_room-clause-refused : goal.returns-in_err-lock_if_room-clause-refused
returns-in_err-lock_if_room-clause-refused g c =
    let e = err_from_is_err_and c.from_residual-in_err-lock_if_room.result c.from_residual-in_err-lock_if_room.ensures.1 in
    let p1 = c.lock_if_room.new.pass in
    let lacking : LacksRoomForAll g.K.TableKey.hash c.args.self.now.settings (map (λ k. g.K.TableKey.name k.now) c.args.keys.now) c.args.pass.now p1 = search rules in
    rw (e.1, e.2) (c.make_room_for_each.new.pass, inr (p1, lacking, c.in_default-make_room_for_each.ensures.made), c.in_err-lock_if_room.ensures.refused)

pub returns-in_err-lock_if_room-clause-found : goal.returns-in_err-lock_if_room-clause-found
returns-in_err-lock_if_room-clause-found g c =
    let p = c.args.pass.now in
    let p1 = c.lock_if_room.new.pass in
    let p2 = c.make_room_for_each.new.pass in
    let z = c.lock_if_room-2.new.pass in
    any_on p p2 z (any_on p p1 p2 (any_among _ p p1 c.lock_if_room.ensures.found) c.make_room_for_each.ensures.found) (any_among _ p2 z c.lock_if_room-2.ensures.found)

pub returns-clause-found : goal.returns-clause-found
returns-clause-found g c =
    let p = c.args.pass.now in
    let p1 = c.lock_if_room.new.pass in
    let p2 = c.make_room_for_each.new.pass in
    let z = c.lock_if_room-2.new.pass in
    any_on p p2 z (any_on p p1 p2 (any_among _ p p1 c.lock_if_room.ensures.found) c.make_room_for_each.ensures.found) (any_among _ p2 z c.lock_if_room-2.ensures.found)

pub returns-clause-answered : goal.returns-clause-answered
returns-clause-answered g c =
    let p1 = c.lock_if_room.new.pass in
    let lacking : LacksRoomForAll g.K.TableKey.hash c.args.self.now.settings (map (λ k. g.K.TableKey.name k.now) c.args.keys.now) c.args.pass.now p1 = search rules in
    tried_again g.K.TableKey.hash c.args.self.now (map (λ k. g.K.TableKey.name k.now) c.args.keys.now) c.args.pass.now p1 c.make_room_for_each.new.pass c.lock_if_room-2.new.pass lacking c.in_default-make_room_for_each.ensures.made
    c.make_room_for_each.ensures.caller c.lock_if_room-2.ensures.found c.in_ok-lock_if_room.field-0 c.in_ok-lock_if_room.ensures.answered
