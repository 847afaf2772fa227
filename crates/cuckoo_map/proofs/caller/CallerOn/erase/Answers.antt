use Rattle.cuckoo_map.proofs.Callers.{query_on}
use Rattle.cuckoo_map.proofs.Told.{told_erased}
use Rattle.cuckoo_map.proofs.caller.CallerOn.erase.Goals as goal

pub returns : goal.returns
returns g c =
    query_on c.self.inside.pass c.erase.new.pass c.self.view_is c.self.invariant c.table.ensures c.erase.ensures.caller g.K.TableKey.hash (g.Q.Query.name c.args.key) c.erase.result told_erased c.erase.ensures.queried
