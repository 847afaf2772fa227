use Rattle.cuckoo_map.specs.Insertions.{IsInserted}
use Rattle.cuckoo_map.proofs.Told.{as_found}
use Rattle.cuckoo_map.proofs.table.Table.get_or_insert_with.Goals as goal

pub returns-clause-inserted : goal.returns-clause-inserted
returns-clause-inserted g c =
    let did = c.in_ok-value.ensures.inserted in
    let told = did.answered in
    record {
      answered = as_found (IsInserted g.K.TableKey.hash c.args.self.now.settings (g.K.TableKey.name c.args.key) c.args.pass.now c.make.new.pass) c.args.f (λ (w : g.row.V.Denot). g.F.FnOnce.post c.args.f tt w) c.in_ok-value.value _ told.0 told.1 told.2 told.3;
      refused = tt;
      found = did.found;
    }
