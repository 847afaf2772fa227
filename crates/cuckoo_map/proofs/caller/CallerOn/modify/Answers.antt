use Rattle.cuckoo_map.proofs.Callers.{query_on}
use Rattle.cuckoo_map.proofs.Told.{told_modified}
use Rattle.cuckoo_map.proofs.caller.CallerOn.modify.Goals as goal

pub returns : goal.returns
returns g c =
    query_on c.self.inside.pass c.modify.new.pass c.self.view_is c.self.invariant c.table.ensures c.modify.ensures.caller g.K.TableKey.hash (g.Q.Query.name c.args.key) c.modify.result (λ f. told_modified f (λ (v : g.row.V.Denot) (x : g.row.V.Denot × g.row.R.Denot). g.F.FnOnce.post c.args.f (v, tt) x)) c.modify.ensures.queried
