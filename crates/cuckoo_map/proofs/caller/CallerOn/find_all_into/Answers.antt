use Rattle.std.proofs.Common.{map}
use Rattle.cuckoo_map.proofs.Callers.{query_all}
use Rattle.cuckoo_map.proofs.caller.CallerOn.find_all_into.Goals as goal

pub returns-clause-answered : goal.returns-clause-answered
returns-clause-answered g c = query_all c.self.inside.pass c.find_all.new.pass c.self.view_is c.self.invariant c.table.ensures c.find_all.ensures.caller g.K.TableKey.hash (map g.Q.Query.name c.args.keys.now) c.find_all.result c.find_all.ensures.looked
