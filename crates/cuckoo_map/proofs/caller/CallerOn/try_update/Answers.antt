use Rattle.std.proofs.Common.{Result}
use Rattle.cuckoo_map.proofs.Callers.{query_on}
use Rattle.cuckoo_map.proofs.Told.{told_tried_change}
use Rattle.cuckoo_map.proofs.caller.CallerOn.try_update.Goals as goal

pub returns : goal.returns
returns g c =
    query_on c.self.inside.pass c.try_update.new.pass c.self.view_is c.self.invariant c.table.ensures c.try_update.ensures.caller g.K.TableKey.hash (g.Q.Query.name c.args.key) c.try_update.result (λ f. told_tried_change f (λ (v : g.row.V.Denot) (r : Result g.row.V.Denot (g.row.V.Denot × g.row.E.Denot)). g.F.FnOnce.post c.args.f (v, tt) r)) c.try_update.ensures.queried
