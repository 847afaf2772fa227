use Rattle.std.proofs.Common.{map}
use Rattle.cuckoo_map.proofs.Callers.{query_all}
use Rattle.cuckoo_map.proofs.caller.CallerOn.compare_and_set.Goals as goal

pub returns : goal.returns
returns g c = query_all c.self.inside.pass c.compare_and_set.new.pass c.self.view_is c.self.invariant c.table.ensures c.compare_and_set.ensures.caller g.K.TableKey.hash (map g.Q.Query.name c.args.keys) c.compare_and_set.result c.compare_and_set.ensures.set
