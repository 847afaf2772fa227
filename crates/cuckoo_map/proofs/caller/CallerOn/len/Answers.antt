use Rattle.std.proofs.lemmas.Result.{IfOk-weaker}
use Rattle.ck_model.specs.declared.history.Call.TheVariants.{Len}
use Rattle.ck_model.specs.declared.history.Reply.TheVariants.{Count}
use Rattle.ck_words.specs.Words.{WordsState}
use Rattle.cuckoo_map.specs.Refusals.{IsStripeIn}
use Rattle.cuckoo_map.proofs.Callers.{replies, query}
use Rattle.cuckoo_map.proofs.caller.CallerOn.len.Goals as goal

pub returns : goal.returns
returns g c =
    let q = c.len.new.pass in
    let told = IfOk-weaker c.len.result _ _ (λ count h. replies c.self.inside.pass q c.self.view_is Len (Count count) h) c.len.ensures.answered in
    let left = query c.self.inside.pass q c.self.view_is c.self.invariant c.table.ensures c.len.ensures.caller (λ (w : WordsState). IsStripeIn w.settings) (λ busy. busy.0) c.len.result told c.len.ensures.busy c.len.ensures.found in
    record { same = left.same; answered = left.answered; notes = left.notes; most = rw (← c.self.view_is, ← c.table.ensures) c.len.ensures.most; busy = left.busy; found = left.found }
