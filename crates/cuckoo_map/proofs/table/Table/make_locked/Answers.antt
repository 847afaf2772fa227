use Rattle.std.proofs.Common.{refl}
use Rattle.cuckoo_map.proofs.Refusing.{found_own}
use Rattle.cuckoo_map.proofs.table.Table.make_locked.Goals as goal

pub make_in-requires-clause-found : goal.make_in-requires-clause-found
make_in-requires-clause-found g c =
    found_own g.K.TableKey.hash c.args.self.now.settings (g.K.TableKey.name c.args.key) c.args.since.value c.find_room.new.pass c.find_room.new.pass c.find_room.ensures.found refl
