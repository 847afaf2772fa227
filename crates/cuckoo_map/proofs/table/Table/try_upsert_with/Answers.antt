use Rattle.std.proofs.Common.{Result}
use Rattle.cuckoo_map.specs.Insertions.{IsInserted}
use Rattle.cuckoo_map.proofs.Told.{as_tried_with}
use Rattle.cuckoo_map.proofs.table.Table.try_upsert_with.Goals as goal

pub returns-clause-inserted : goal.returns-clause-inserted
returns-clause-inserted g c =
    let did = c.in_ok-answer.ensures.inserted in
    let told = did.answered in
    record {
      answered = as_tried_with (IsInserted g.K.TableKey.hash c.args.self.now.settings (g.K.TableKey.name c.args.key) c.args.pass.now c.make.new.pass) c.args.make
          (λ (v : g.row.V.Denot). g.G.FnOnce.post c.args.make tt v)
          (λ (v : g.row.V.Denot) (r : Result g.row.V.Denot (g.row.V.Denot × g.row.E.Denot)). g.F.FnOnce.post c.args.f (v, tt) r) c.in_ok-answer.answer _ told.0 told.1 told.2 told.3;
      refused = tt;
      found = did.found;
    }
