use Rattle.cuckoo_map.proofs.Callers.{query_on}
use Rattle.cuckoo_map.proofs.Told.{told_found}
use Rattle.cuckoo_map.proofs.caller.CallerOn.find.Goals as goal

pub returns : goal.returns
returns g c =
    query_on c.self.inside.pass c.find.new.pass c.self.view_is c.self.invariant c.table.ensures c.find.ensures.caller g.K.TableKey.hash (g.Q.Query.name c.args.key) c.find.result told_found c.find.ensures.queried
