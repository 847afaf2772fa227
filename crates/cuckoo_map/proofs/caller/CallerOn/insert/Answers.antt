use Rattle.cuckoo_map.proofs.Callers.{insertion}
use Rattle.cuckoo_map.proofs.Told.{told_inserted}
use Rattle.cuckoo_map.proofs.caller.CallerOn.insert.Goals as goal

pub returns : goal.returns
returns g c =
    insertion c.self.inside.pass c.insert.new.pass c.self.view_is c.self.invariant c.table.ensures c.insert.ensures.caller g.K.TableKey.hash (g.K.TableKey.name c.args.key) c.args.key c.args.value c.insert.result (λ f. told_inserted f c.args.value) c.insert.ensures.inserted
