use Rattle.cuckoo_map.specs.Locking.{HasActed}
use Rattle.cuckoo_map.proofs.Told.{as_inserted}
use Rattle.cuckoo_map.proofs.locked.LockedOn.insert_with.Goals as goal

pub returns : goal.returns
returns g c =
    let did = c.in_ok-back.ensures in
    let told = did.answered in
    record {
      answered = as_inserted (HasActed (g.K.TableKey.name c.args.key) c.args.self.now c.make.new.self) c.args.f _ c.in_ok-back.back c.is_none.result c.is_none.ensures told.0 told.1 told.2 told.3;
      refused = tt;
      grows = did.grows;
    }
