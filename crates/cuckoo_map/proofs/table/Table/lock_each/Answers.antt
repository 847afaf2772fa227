use Rattle.std.proofs.Common.{length, map, take}
use Rattle.cuckoo_map.proofs.SeveralKeys.{partials_of}
use Rattle.cuckoo_map.proofs.table.Table.lock_each.Goals as goal

pub lock_hashed-requires-clause-partials : goal.lock_hashed-requires-clause-partials
lock_hashed-requires-clause-partials g c = partials_of g.K.TableKey.hash (map g.Q.Query.name c.args.keys.now) (take (length c.args.keys.now) c.write_hashes.new.hashes) c.write_hashes.ensures
