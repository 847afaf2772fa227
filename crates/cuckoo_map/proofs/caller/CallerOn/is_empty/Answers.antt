use Rattle.std.proofs.lemmas.Result.{IfOk-weaker}
use Rattle.ck_model.specs.declared.history.Call.TheVariants.{Len}
use Rattle.ck_model.specs.declared.history.Reply.TheVariants.{Count}
use Rattle.ck_words.specs.Words.{WordsState}
use Rattle.cuckoo_map.specs.Refusals.{IsStripeIn}
use Rattle.cuckoo_map.proofs.Callers.{replies, query}
use Rattle.cuckoo_map.proofs.caller.CallerOn.is_empty.Goals as goal

pub returns : goal.returns
returns g c =
    let q = c.is_empty.new.pass in
    let told = IfOk-weaker c.is_empty.result _ _ (λ empty h. let x = replies c.self.inside.pass q c.self.view_is Len (Count h.0) h.2 in ((h.0, h.1, x.0), x.1)) c.is_empty.ensures.answered in
    let left = query c.self.inside.pass q c.self.view_is c.self.invariant c.table.ensures c.is_empty.ensures.caller (λ (w : WordsState). IsStripeIn w.settings) (λ busy. busy.0) c.is_empty.result told c.is_empty.ensures.busy c.is_empty.ensures.found in
    record { same = left.same; answered = left.answered; notes = left.notes; busy = left.busy; found = left.found }
