use Rattle.std.proofs.Common.{map}
use Rattle.cuckoo_map.proofs.Callers.{query_all}
use Rattle.cuckoo_map.proofs.caller.CallerOn.update_all.Goals as goal

pub returns : goal.returns
returns g c = query_all c.self.inside.pass c.update_all.new.pass c.self.view_is c.self.invariant c.table.ensures c.update_all.ensures.caller g.K.TableKey.hash (map g.Q.Query.name c.args.keys) c.update_all.result c.update_all.ensures.updated
