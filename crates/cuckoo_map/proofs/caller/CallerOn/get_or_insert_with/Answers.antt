use Rattle.cuckoo_map.proofs.Callers.{insertion}
use Rattle.cuckoo_map.proofs.Told.{told_found_or_inserted}
use Rattle.cuckoo_map.proofs.caller.CallerOn.get_or_insert_with.Goals as goal

pub returns : goal.returns
returns g c =
    insertion c.self.inside.pass c.get_or_insert_with.new.pass c.self.view_is c.self.invariant c.table.ensures c.get_or_insert_with.ensures.caller g.K.TableKey.hash (g.K.TableKey.name c.args.key) c.args.key c.args.f c.get_or_insert_with.result (λ f. told_found_or_inserted f _) c.get_or_insert_with.ensures.inserted
