use Rattle.cuckoo_map.proofs.Callers.{query_on}
use Rattle.cuckoo_map.proofs.Told.{told_erased_by}
use Rattle.cuckoo_map.proofs.caller.CallerOn.erase_fn.Goals as goal

pub returns : goal.returns
returns g c =
    query_on c.self.inside.pass c.erase_fn.new.pass c.self.view_is c.self.invariant c.table.ensures c.erase_fn.ensures.caller g.K.TableKey.hash (g.Q.Query.name c.args.key) c.erase_fn.result (λ f. told_erased_by f _) c.erase_fn.ensures.queried
