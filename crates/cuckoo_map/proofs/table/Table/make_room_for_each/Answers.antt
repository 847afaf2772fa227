use Rattle.std.proofs.lemmas.Result.{err_from_is_err_and}
use Rattle.cuckoo_map.proofs.Displacing.{any_on, any_among}
use Rattle.cuckoo_map.proofs.RoomForKeys.{sought_next, refused_next}
use Rattle.cuckoo_map.proofs.table.Table.make_room_for_each.Goals as goal

pub returns-in_err-make_room_ahead-clause-refused : goal.returns-in_err-make_room_ahead-clause-refused
returns-in_err-make_room_ahead-clause-refused g c =
    let e = err_from_is_err_and c.from_residual.result c.from_residual.ensures.1 in
    rw (e.1, e.2) (refused_next g.K.TableKey.hash c.args.self.now.settings (λ k. g.K.TableKey.name k.now) c.args.keys.now c.loop-key.key-index c.key-item.result c.loop-key-test.true c.key-item.is
    c.args.pass.now c.loop-key.pass c.make_room_ahead.new.pass c.loop-key.invariant.so_far c.in_err-make_room_ahead.field-0.0 c.in_err-make_room_ahead.ensures.refused)

pub returns-in_err-make_room_ahead-clause-found : goal.returns-in_err-make_room_ahead-clause-found
returns-in_err-make_room_ahead-clause-found g c = any_on c.args.pass.now c.loop-key.pass c.make_room_ahead.new.pass c.loop-key.invariant.found (any_among _ c.loop-key.pass c.make_room_ahead.new.pass c.make_room_ahead.ensures.found)

pub loop-key-preserved : goal.loop-key-preserved
loop-key-preserved g c = record {
  caller = c.make_room_ahead.ensures.caller;
  so_far = sought_next g.K.TableKey.hash c.args.self.now.settings (λ k. g.K.TableKey.name k.now) c.args.keys.now c.loop-key.key-index c.key-item.result c.loop-key-test.true c.key-item.is
      c.args.pass.now c.loop-key.pass c.make_room_ahead.new.pass c.loop-key.invariant.so_far c.in_ok-make_room_ahead.ensures.made;
  found = any_on c.args.pass.now c.loop-key.pass c.make_room_ahead.new.pass c.loop-key.invariant.found (any_among _ c.loop-key.pass c.make_room_ahead.new.pass c.make_room_ahead.ensures.found);
}
