use Rattle.std.proofs.Common.{Ok, map}
use Rattle.cuckoo_map.proofs.Callers.{query_all}
use Rattle.cuckoo_map.proofs.caller.CallerOn.find_all.Goals as goal

pub returns : goal.returns
returns g c =
    let told = query_all c.self.inside.pass c.find_all.new.pass c.self.view_is c.self.invariant c.table.ensures c.find_all.ensures.caller g.K.TableKey.hash (map g.Q.Query.name c.args.keys) (Ok c.in_ok-find_all.field-0) c.in_ok-find_all.ensures.looked in
    record { same = told.same; answered = told.answered; notes = told.notes; refused = tt; found = told.found }
