use Rattle.std.proofs.Common.{rules, true, false, map, inr, refl}
use Rattle.ck_words.specs.Closing.{IsCaller}
use Rattle.cuckoo_map.specs.RoomForKeys.{LacksRoomStill}
use Rattle.cuckoo_map.proofs.Displacing.{any_on, any_among}
use Rattle.cuckoo_map.proofs.RoomForKeys.{match_some, match_none, grows_again}
use Rattle.cuckoo_map.proofs.table.Table.lock_with_room.Goals as goal

pub returns-in_err-stripes-clause-found : goal.returns-in_err-stripes-clause-found
returns-in_err-stripes-clause-found g c = any_on c.args.pass.now c.loop.pass c.lock_with_room_for_each.new.pass c.loop.invariant.found c.lock_with_room_for_each.ensures.found

-- there was room for each
pub returns-in-Some-clause-held : goal.returns-in-Some-clause-held
returns-in-Some-clause-held g c =
    let t = c.loop.invariant.grown in
    let h = match_some _ _ c.in_ok-stripes.field-0 c.in-Some.stripes c.in-Some.is c.in_ok-stripes.ensures.answered in
    (h.0, false, h.1, (t.0, c.loop.pass, t.2, h.2), h.3, h.4, h.5)

pub returns-in-Some-clause-found : goal.returns-in-Some-clause-found
returns-in-Some-clause-found g c = any_on c.args.pass.now c.loop.pass c.lock_with_room_for_each.new.pass c.loop.invariant.found c.lock_with_room_for_each.ensures.found

-- there was, among all stripes
pub returns-in-Ok-Some-clause-held : goal.returns-in-Ok-Some-clause-held
returns-in-Ok-Some-clause-held g c =
    let names = map (λ k. g.K.TableKey.name k.now) c.args.keys.now in
    let m = c.lock_with_room_for_each.new.pass in
    let t = c.loop.invariant.grown in
    let lacks : IsCaller c.args.self.now m × LacksRoomStill g.K.TableKey.hash c.args.self.now.settings names c.loop.pass m = search rules in
    let h = match_some _ _ c.in-Ok-Some.field-0 c.in-Ok-Some.stripes c.in-Ok-Some.field-0-is c.in-Ok-Some.ensures.answered in
    (m, true, lacks.0, (t.0, c.loop.pass, t.2, lacks.1), h.0, c.lock_all_or_grow.ensures.found, h.1)

pub returns-in-Ok-Some-clause-found : goal.returns-in-Ok-Some-clause-found
returns-in-Ok-Some-clause-found g c =
    let m = c.lock_with_room_for_each.new.pass in
    let z = c.lock_all_or_grow.new.pass in
    any_on c.args.pass.now m z (any_on c.args.pass.now c.loop.pass m c.loop.invariant.found c.lock_with_room_for_each.ensures.found) (any_among _ m z c.lock_all_or_grow.ensures.found)

-- there was none, and the table doesn't grow
pub returns-in-Err-clause-refused : goal.returns-in-Err-clause-refused
returns-in-Err-clause-refused g c =
    let names = map (λ k. g.K.TableKey.name k.now) c.args.keys.now in
    let m = c.lock_with_room_for_each.new.pass in
    let t = c.loop.invariant.grown in
    let lacks : IsCaller c.args.self.now m × LacksRoomStill g.K.TableKey.hash c.args.self.now.settings names c.loop.pass m = search rules in
    inr (c.in-Err.why, m, refl, (t.0, c.loop.pass, t.2, lacks.1), c.in-Err.ensures.refused)

pub returns-in-Err-clause-found : goal.returns-in-Err-clause-found
returns-in-Err-clause-found g c =
    let m = c.lock_with_room_for_each.new.pass in
    let z = c.lock_all_or_grow.new.pass in
    any_on c.args.pass.now m z (any_on c.args.pass.now c.loop.pass m c.loop.invariant.found c.lock_with_room_for_each.ensures.found) (any_among _ m z c.lock_all_or_grow.ensures.found)

-- or grew
pub loop-preserved : goal.loop-preserved
loop-preserved g c =
    let names = map (λ k. g.K.TableKey.name k.now) c.args.keys.now in
    let m = c.lock_with_room_for_each.new.pass in
    let z = c.lock_all_or_grow.new.pass in
    let t = c.loop.invariant.grown in
    let lacks : IsCaller c.args.self.now m × LacksRoomStill g.K.TableKey.hash c.args.self.now.settings names c.loop.pass m = search rules in
    let h = match_none _ _ c.in-Ok-None.field-0 c.in-Ok-None.field-0-is c.in-Ok-None.ensures.answered in
    record {
      caller = h.0;
      grown = grows_again g.K.TableKey.hash c.args.self.now.settings names t.0 c.loop.counter c.args.pass.now c.loop.pass m z t.1 t.2 t.3 lacks.1 h.1;
      found = any_on c.args.pass.now m z (any_on c.args.pass.now c.loop.pass m c.loop.invariant.found c.lock_with_room_for_each.ensures.found) (any_among _ m z c.lock_all_or_grow.ensures.found);
    }
