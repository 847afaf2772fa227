use Rattle.std.proofs.Common.{[], ◌∷◌}
use Rattle.std.proofs.lemmas.Result.{IfOk-weaker}
use Rattle.ck_model.specs.declared.history.Call.TheVariants.{ChangeTwo}
use Rattle.ck_words.specs.Words.{WordsState}
use Rattle.cuckoo_map.specs.SeveralKeys.{IsStripeOfAny}
use Rattle.cuckoo_map.proofs.Callers.{replies, query}
use Rattle.cuckoo_map.proofs.Told.{told_changed_two}
use Rattle.cuckoo_map.proofs.caller.CallerOn.update_two.Goals as goal

pub returns : goal.returns
returns g c =
    let a = g.Q.Query.name c.args.a in
    let b = g.Q.Query.name c.args.b in
    let q = c.update_two.new.pass in
    let told = IfOk-weaker c.update_two.result _ _ (told_changed_two (replies c.self.inside.pass q c.self.view_is (ChangeTwo a b)) (λ (v w : g.row.V.Denot) (new : g.row.V.Denot × g.row.V.Denot). g.F.FnOnce.post c.args.f (v, (w, tt)) new)) c.update_two.ensures.answered in
    let left = query c.self.inside.pass q c.self.view_is c.self.invariant c.table.ensures c.update_two.ensures.caller (λ (w : WordsState). IsStripeOfAny g.K.TableKey.hash w.settings (a ∷ b ∷ [])) (λ busy. busy.0) c.update_two.result told c.update_two.ensures.busy c.update_two.ensures.found in
    record { same = left.same; answered = left.answered; notes = left.notes; busy = left.busy; found = left.found }
