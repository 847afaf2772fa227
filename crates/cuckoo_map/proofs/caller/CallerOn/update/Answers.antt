use Rattle.std.proofs.lemmas.Result.{IfOk-weaker, IfErr-weaker}
use Rattle.cuckoo_map.proofs.Callers.{OfName, replies_on, query}
use Rattle.cuckoo_map.proofs.Told.{told_updated}
use Rattle.cuckoo_map.proofs.caller.CallerOn.update.Goals as goal

pub returns : goal.returns
returns g c =
    let name = g.Q.Query.name c.args.key in
    let q = c.update.new.pass in
    let told = IfOk-weaker c.update.result _ _ (told_updated (replies_on c.self.inside.pass q c.self.view_is name) c.args.value) c.update.ensures.answered in
    let left = query c.self.inside.pass q c.self.view_is c.self.invariant c.table.ensures c.update.ensures.caller (OfName g.K.TableKey.hash name) (λ back. back.1.0) c.update.result told (IfErr-weaker c.update.result _ _ (λ back h. h.1) c.update.ensures.busy) c.update.ensures.found in
    record { same = left.same; answered = left.answered; notes = left.notes; back = IfErr-weaker c.update.result _ _ (λ back h. h.0) c.update.ensures.busy; busy = left.busy; found = left.found }
