use Rattle.cuckoo_map.proofs.Callers.{insertion}
use Rattle.cuckoo_map.proofs.Told.{told_upserted}
use Rattle.cuckoo_map.proofs.caller.CallerOn.upsert.Goals as goal

pub returns : goal.returns
returns g c =
    insertion c.self.inside.pass c.upsert.new.pass c.self.view_is c.self.invariant c.table.ensures c.upsert.ensures.caller g.K.TableKey.hash (g.K.TableKey.name c.args.key) c.args.key c.args.value c.upsert.result (λ f. told_upserted f _ c.args.value) c.upsert.ensures.inserted
