use Rattle.cuckoo_map.specs.Insertions.{IsInserted}
use Rattle.cuckoo_map.proofs.Told.{as_inserted}
use Rattle.cuckoo_map.proofs.table.Table.insert_with.Goals as goal

pub returns-clause-inserted : goal.returns-clause-inserted
returns-clause-inserted g c =
    let did = c.in_ok-back.ensures.inserted in
    let told = did.answered in
    record {
      answered = as_inserted (IsInserted g.K.TableKey.hash c.args.self.now.settings (g.K.TableKey.name c.args.key) c.args.pass.now c.make.new.pass) c.args.f _ c.in_ok-back.back c.is_none.result c.is_none.ensures told.0 told.1 told.2 told.3;
      refused = tt;
      found = did.found;
    }
