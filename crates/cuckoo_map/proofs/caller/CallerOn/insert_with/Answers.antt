use Rattle.cuckoo_map.proofs.Callers.{insertion}
use Rattle.cuckoo_map.proofs.Told.{told_inserted_by}
use Rattle.cuckoo_map.proofs.caller.CallerOn.insert_with.Goals as goal

pub returns : goal.returns
returns g c =
    insertion c.self.inside.pass c.insert_with.new.pass c.self.view_is c.self.invariant c.table.ensures c.insert_with.ensures.caller g.K.TableKey.hash (g.K.TableKey.name c.args.key) c.args.key c.args.f c.insert_with.result (λ f. told_inserted_by f _) c.insert_with.ensures.inserted
