use Rattle.std.proofs.Common.{Option}
use Rattle.std.proofs.lemmas.Result.{IfOk-weaker}
use Rattle.cuckoo_map.specs.Insertions.{IsInserted}
use Rattle.cuckoo_map.proofs.Told.{as_uprased}
use Rattle.cuckoo_map.proofs.table.Table.uprase.Goals as goal

pub returns-clause-inserted : goal.returns-clause-inserted
returns-clause-inserted g c =
    record {
      answered = IfOk-weaker c.make.result _ _
          (λ answer told. as_uprased (IsInserted g.K.TableKey.hash c.args.self.now.settings (g.K.TableKey.name c.args.key) c.args.pass.now c.make.new.pass)
          (λ (v : g.row.V.Denot) (o : Option g.row.V.Denot). g.F.FnOnce.post c.args.f (v, tt) o) c.args.value answer told.0 told.1 told.2 told.3)
          c.make.ensures.inserted.answered;
      refused = c.make.ensures.inserted.refused;
      found = c.make.ensures.inserted.found;
    }
