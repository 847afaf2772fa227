use Rattle.std.proofs.Common.{◌≡◌, ◌∙◌, ◌^◌, sym, ap, subst}
use Rattle.atomic_table.specs.Seated.{TableId}
use Rattle.ck_model.specs.Counting.{counting}
use Rattle.ck_words.specs.Words.{WordsState}
use Rattle.ck_words.specs.Passes.{PassState, held_in, numbers_of}
use Rattle.ck_words.specs.Lifting.{IsEmptied}
use Rattle.ck_words.proofs.Lifting.{is_emptied}
use Rattle.ck_words.proofs.words.Words.lift.Goals as goal

pub invariant_of-result : goal.invariant_of-result
invariant_of-result g c =
    let n = c.slot_count.result in
    let same = ap (λ (p : PassState g.row.V.Denot). p.table) c.pass.view_is ∙ (c.requires.own.0 ∙ sym (ap (λ (w : WordsState). w.table) c.self.view_is)) in
    let many : c.pass.inside.seat.table_id.slots ≡ n = ap (λ (t : TableId). t.slots) same ∙ sym c.slot_count.ensures in
    let slots = c.slot_count.ensures ∙ c.self.invariant.slots ∙ ap (λ (w : WordsState). 2 ^ w.settings.s) c.self.view_is in
    let named : numbers_of (held_in c.pass.inside.seat.me.1) ≡ counting 0 n = ap (λ (p : PassState g.row.V.Denot). numbers_of p.stripes) c.pass.view_is ∙ (c.requires.numbered ∙ ap (counting 0) (sym slots)) in
    let new = is_emptied c.pass.inside.seat.table_id n c.pass.inside.seat.me c.take_out.new.seat.me c.pass.invariant.seated many named c.take_out.ensures.view c.take_out.ensures.emptied in
    subst (λ (x : TableId). IsEmptied x c.take_out.new.seat.me) (sym c.take_out.ensures.table) new
