use Rattle.cuckoo_map.proofs.Callers.{insertion}
use Rattle.cuckoo_map.proofs.Told.{told_assigned}
use Rattle.cuckoo_map.proofs.caller.CallerOn.insert_or_assign.Goals as goal

pub returns : goal.returns
returns g c =
    insertion c.self.inside.pass c.insert_or_assign.new.pass c.self.view_is c.self.invariant c.table.ensures c.insert_or_assign.ensures.caller g.K.TableKey.hash (g.K.TableKey.name c.args.key) c.args.key c.args.value c.insert_or_assign.result (λ f. told_assigned f c.args.value) c.insert_or_assign.ensures.inserted
