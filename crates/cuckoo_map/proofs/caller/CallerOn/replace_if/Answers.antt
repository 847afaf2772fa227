use Rattle.std.specs.Fn.{FnOnceReturnsAt}
use Rattle.cuckoo_map.proofs.Callers.{query_on}
use Rattle.cuckoo_map.proofs.Told.{told_replaced}
use Rattle.cuckoo_map.proofs.caller.CallerOn.replace_if.Goals as goal

pub returns : goal.returns
returns g c =
    query_on c.self.inside.pass c.replace_if.new.pass c.self.view_is c.self.invariant c.table.ensures c.replace_if.ensures.caller g.K.TableKey.hash (g.Q.Query.name c.args.key) c.replace_if.result (λ f. told_replaced f (FnOnceReturnsAt g.F.FnOnce c.args.f)) c.replace_if.ensures.queried
