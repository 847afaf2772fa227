use Rattle.cuckoo_map.proofs.Sessions.{seeks_room}
use Rattle.cuckoo_map.proofs.table.Table.make_room_in.Goals as goal

pub returns-clause-room : goal.returns-clause-room
returns-clause-room g c =
    let made = c.make_room-made in
    seeks_room g.K.TableKey.hash c.args.settings (g.K.TableKey.name c.args.key.now) made.result (g.H.Held.stripes c.args.held.now) (g.H.Held.stripes made.new.held) (g.H.Held.stripes c.settle_all.new.held) c.settle_all.ensures.settled
    made.ensures.table made.ensures.no_call made.ensures.room made.ensures.refused made.ensures.left made.ensures.doubled
