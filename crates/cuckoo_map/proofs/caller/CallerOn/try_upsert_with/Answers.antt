use Rattle.std.proofs.Common.{Result}
use Rattle.cuckoo_map.proofs.Callers.{insertion}
use Rattle.cuckoo_map.proofs.Told.{told_tried_with}
use Rattle.cuckoo_map.proofs.caller.CallerOn.try_upsert_with.Goals as goal

pub returns : goal.returns
returns g c =
    insertion c.self.inside.pass c.try_upsert_with.new.pass c.self.view_is c.self.invariant c.table.ensures c.try_upsert_with.ensures.caller g.K.TableKey.hash (g.K.TableKey.name c.args.key) c.args.key (c.args.make, c.args.f) c.try_upsert_with.result
    (λ f. told_tried_with f (λ (v : g.row.V.Denot). g.G.FnOnce.post c.args.make tt v) (λ (v : g.row.V.Denot) (r : Result g.row.V.Denot (g.row.V.Denot × g.row.E.Denot)). g.F.FnOnce.post c.args.f (v, tt) r)) c.try_upsert_with.ensures.inserted
