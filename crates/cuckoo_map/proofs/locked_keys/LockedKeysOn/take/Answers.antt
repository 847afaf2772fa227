use Rattle.cuckoo_map.proofs.UpdatedKeys.{shown_at}
use Rattle.cuckoo_map.proofs.locked_keys.LockedKeysOn.take.Goals as goal

pub erase-requires : goal.erase-requires
erase-requires g c = record { named = (shown_at g.Q.Query.name c.self.inside.keys.now _ c.self.inside.pass _ c.self.view_is c.args.i c.index-keys-i.result c.requires.inside c.index-keys-i.is).0 }
