use Rattle.cuckoo_map.proofs.Callers.{room_left}
use Rattle.cuckoo_map.proofs.caller.CallerOn.make_room.Goals as goal

pub returns : goal.returns
returns g c =
    let e = c.make_room_ahead.ensures in
    room_left c.self.inside.pass c.make_room_ahead.new.pass c.self.view_is c.self.invariant c.table.ensures e.caller g.K.TableKey.hash (g.K.TableKey.name c.args.key.now) c.make_room_ahead.result e.made e.refused e.found
