use Rattle.cuckoo_map.proofs.Callers.{query_on}
use Rattle.cuckoo_map.proofs.Told.{told_found_by}
use Rattle.cuckoo_map.proofs.caller.CallerOn.find_fn.Goals as goal

pub returns : goal.returns
returns g c =
    query_on c.self.inside.pass c.find_fn.new.pass c.self.view_is c.self.invariant c.table.ensures c.find_fn.ensures.caller g.K.TableKey.hash (g.Q.Query.name c.args.key) c.find_fn.result (λ f. told_found_by f _) c.find_fn.ensures.queried
