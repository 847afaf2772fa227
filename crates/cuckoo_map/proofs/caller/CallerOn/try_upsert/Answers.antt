use Rattle.std.proofs.Common.{Result}
use Rattle.cuckoo_map.proofs.Callers.{insertion}
use Rattle.cuckoo_map.proofs.Told.{told_tried}
use Rattle.cuckoo_map.proofs.caller.CallerOn.try_upsert.Goals as goal

pub returns : goal.returns
returns g c =
    insertion c.self.inside.pass c.try_upsert.new.pass c.self.view_is c.self.invariant c.table.ensures c.try_upsert.ensures.caller g.K.TableKey.hash (g.K.TableKey.name c.args.key) c.args.key c.args.value c.try_upsert.result (λ f. told_tried f (λ (v : g.row.V.Denot) (r : Result g.row.V.Denot (g.row.V.Denot × g.row.E.Denot)). g.F.FnOnce.post c.args.f (v, tt) r) c.args.value) c.try_upsert.ensures.inserted
