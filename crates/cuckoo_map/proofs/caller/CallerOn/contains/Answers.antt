use Rattle.cuckoo_map.proofs.Callers.{query_on}
use Rattle.cuckoo_map.proofs.Told.{told_bound}
use Rattle.cuckoo_map.proofs.caller.CallerOn.contains.Goals as goal

pub returns : goal.returns
returns g c =
    query_on c.self.inside.pass c.contains.new.pass c.self.view_is c.self.invariant c.table.ensures c.contains.ensures.caller g.K.TableKey.hash (g.Q.Query.name c.args.key) c.contains.result told_bound c.contains.ensures.queried
