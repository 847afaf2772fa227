use Rattle.std.proofs.Common.{Option}
use Rattle.cuckoo_map.proofs.Callers.{insertion}
use Rattle.cuckoo_map.proofs.Told.{told_uprased}
use Rattle.cuckoo_map.proofs.caller.CallerOn.uprase.Goals as goal

pub returns : goal.returns
returns g c =
    insertion c.self.inside.pass c.uprase.new.pass c.self.view_is c.self.invariant c.table.ensures c.uprase.ensures.caller g.K.TableKey.hash (g.K.TableKey.name c.args.key) c.args.key c.args.value c.uprase.result (λ f. told_uprased f (λ (v : g.row.V.Denot) (o : Option g.row.V.Denot). g.F.FnOnce.post c.args.f (v, tt) o) c.args.value) c.uprase.ensures.inserted
