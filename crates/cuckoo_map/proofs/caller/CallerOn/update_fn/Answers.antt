use Rattle.cuckoo_map.proofs.Callers.{query_on}
use Rattle.cuckoo_map.proofs.Told.{told_changed}
use Rattle.cuckoo_map.proofs.caller.CallerOn.update_fn.Goals as goal

pub returns : goal.returns
returns g c =
    query_on c.self.inside.pass c.update_fn.new.pass c.self.view_is c.self.invariant c.table.ensures c.update_fn.ensures.caller g.K.TableKey.hash (g.Q.Query.name c.args.key) c.update_fn.result (λ f. told_changed f _) c.update_fn.ensures.queried
