use Rattle.cuckoo_map.specs.Locking.{HasActed}
use Rattle.cuckoo_map.proofs.Told.{as_found}
use Rattle.cuckoo_map.proofs.locked.LockedOn.get_or_insert_with.Goals as goal

pub returns : goal.returns
returns g c =
    let did = c.in_ok-value.ensures in
    let told = did.answered in
    record {
      answered = as_found (HasActed (g.K.TableKey.name c.args.key) c.args.self.now c.make.new.self) c.args.f (λ (w : g.row.V.Denot). g.F.FnOnce.post c.args.f tt w) c.in_ok-value.value _ told.0 told.1 told.2 told.3;
      refused = tt;
      grows = did.grows;
    }
