use Rattle.std.proofs.lemmas.Result.{IfOk-weaker}
use Rattle.cuckoo_map.specs.Insertions.{IsInserted}
use Rattle.cuckoo_map.proofs.Told.{as_said}
use Rattle.cuckoo_map.proofs.table.Table.insert.Goals as goal

pub returns-clause-inserted : goal.returns-clause-inserted
returns-clause-inserted g c =
    record {
      answered = IfOk-weaker c.make.result _ _
          (λ fresh told. as_said (IsInserted g.K.TableKey.hash c.args.self.now.settings (g.K.TableKey.name c.args.key) c.args.pass.now c.make.new.pass) told.2 told.3)
          c.make.ensures.inserted.answered;
      refused = c.make.ensures.inserted.refused;
      found = c.make.ensures.inserted.found;
    }
