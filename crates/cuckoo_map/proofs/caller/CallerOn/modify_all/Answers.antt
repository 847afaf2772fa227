use Rattle.std.proofs.Common.{map}
use Rattle.cuckoo_map.proofs.Callers.{query_all}
use Rattle.cuckoo_map.proofs.caller.CallerOn.modify_all.Goals as goal

pub returns-clause-answered : goal.returns-clause-answered
returns-clause-answered g c = query_all c.self.inside.pass c.modify_all.new.pass c.self.view_is c.self.invariant c.table.ensures c.modify_all.ensures.caller g.K.TableKey.hash (map g.Q.Query.name c.args.keys.now) c.modify_all.result c.modify_all.ensures.modified
