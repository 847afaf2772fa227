use Rattle.std.proofs.Common.{Result}
use Rattle.std.proofs.lemmas.Result.{IfOk-weaker}
use Rattle.cuckoo_map.specs.Insertions.{IsInserted}
use Rattle.cuckoo_map.proofs.Told.{as_tried}
use Rattle.cuckoo_map.proofs.table.Table.try_upsert.Goals as goal

pub returns-clause-inserted : goal.returns-clause-inserted
returns-clause-inserted g c =
    record {
      answered = IfOk-weaker c.make.result _ _
          (λ answer told. as_tried (IsInserted g.K.TableKey.hash c.args.self.now.settings (g.K.TableKey.name c.args.key) c.args.pass.now c.make.new.pass)
          (λ (v : g.row.V.Denot) (r : Result g.row.V.Denot (g.row.V.Denot × g.row.E.Denot)). g.F.FnOnce.post c.args.f (v, tt) r) c.args.value answer told.0 told.1 told.2 told.3)
          c.make.ensures.inserted.answered;
      refused = c.make.ensures.inserted.refused;
      found = c.make.ensures.inserted.found;
    }
