use Rattle.std.proofs.Common.{◌≡◌, ◌∙◌, ◌^◌, ℕ, List, sym, ap, subst, arith}
use Rattle.atomic_table.specs.Seated.{TableId}
use Rattle.ck_model.specs.declared.settings.Settings.{Settings}
use Rattle.ck_stripe.specs.Stripe.{StripeState}
use Rattle.ck_model.specs.Counting.{counting}
use Rattle.ck_words.specs.Words.{WordsState}
use Rattle.ck_words.specs.Passes.{EachOf, PassState, numbers_of}
use Rattle.ck_words.proofs.Lifting.{count_of, seated_again, held_again}
use Rattle.ck_words.proofs.words.Words.lower.Goals as goal

pub invariant_of-result : goal.invariant_of-result
invariant_of-result g c =
    let rs : List (StripeState g.row.V.Denot) = c.whole.inside.stripes.list.items in
    let n = c.slot_count.result in
    let same = ap (λ (p : PassState g.row.V.Denot). p.table) c.whole.view_is ∙ (c.requires.own.0 ∙ sym (ap (λ (w : WordsState). w.table) c.self.view_is)) in
    let many : c.whole.inside.seat.table_id.slots ≡ n = ap (λ (t : TableId). t.slots) same ∙ sym c.slot_count.ensures in
    let slots = c.slot_count.ensures ∙ c.self.invariant.slots ∙ ap (λ (w : WordsState). 2 ^ w.settings.s) c.self.view_is in
    let named : numbers_of rs ≡ counting 0 n = ap (λ (p : PassState g.row.V.Denot). numbers_of p.stripes) c.whole.view_is ∙ (c.requires.numbered ∙ ap (counting 0) (sym slots)) in
    let settings : c.args.self.now.settings.s ≡ c.whole.inside.seat.me.0.settings.s = sym (ap (λ (p : PassState g.row.V.Denot). p.view.settings.s) c.whole.view_is ∙ ap (λ (x : Settings). x.s) c.requires.own.1) in
    let stripes : c.args.whole.stripes ≡ rs = sym (ap (λ (p : PassState g.row.V.Denot). p.stripes) c.whole.view_is) in
    let each : EachOf c.whole.inside.seat.me.0.settings.s rs = subst (λ (x : ℕ × List (StripeState g.row.V.Denot)). EachOf x.0 x.1) (λ j. (settings j, stripes j)) c.requires.of_table in
    record {
      seated = seated_again c.whole.inside.seat.table_id c.put_back.new.seat.table_id n c.whole.inside.seat.me c.put_back.new.seat.me rs c.whole.invariant many named each c.put_back.ensures.table c.put_back.ensures.view c.put_back.ensures.full;
      empty = c.put_back.ensures.empty;
      room = (let count = count_of n rs named in let kept = c.put_back.ensures.capacity in let table = ap (λ (t : TableId). t.slots) c.put_back.ensures.table in let ok = c.whole.inside.stripes.list.ok in omega arith);
    }

pub returns : goal.returns
returns g c =
    let rs : List (StripeState g.row.V.Denot) = c.whole.inside.stripes.list.items in
    (λ j. record { table = c.put_back.ensures.table j; view = c.put_back.ensures.view j; stripes = held_again c.put_back.new.seat.me rs c.put_back.ensures.full j }) ∙ c.whole.view_is
