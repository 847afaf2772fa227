use Rattle.std.proofs.Common.{◌≡◌, ◌^◌, ◌<◌, ◌≤◌, ◌∙◌, sym, ap, arith}
use Rattle.std.proofs.Math.Pow.{pow_mono}
use Rattle.ck_words.specs.StripeSets.{list_of}
use Rattle.ck_words.specs.Passes.{PassState}
use Rattle.ck_words.specs.Words.{WordsState}
use Rattle.ck_words.proofs.Guarding.{numbers_with}
use Rattle.ck_words.proofs.Settling.{counts}
use Rattle.ck_words.proofs.Lending.{lent_below}
use Rattle.ck_words.proofs.guard.GuardHeldStripe.number.Goals as goal

pub overflow_cast-result : goal.overflow_cast-result
overflow_cast-result g c =
    let l = c.args.self.now in
    let inside = c.requires in
    let numbered = numbers_with l.is_locked (list_of l.set) l.pass.now.stripes l.numbered c.args.i inside in
    let count = counts l.pass.now (list_of l.set) numbered in
    let below : c.number_at.result < c.pass.inside.seat.table_id.slots = lent_below c.pass.inside.seat l.pass.now c.pass.view_is l.words.now l.own (list_of l.set) numbered c.args.i c.number_at.result c.pass.invariant.seated (omega arith) c.number_at.ensures.value in
    let same : c.pass.inside.seat.table_id.slots ≡ c.words.inside.table.shared.table_id.slots = ap (λ (p : PassState g.row.V.Denot). p.table.slots) c.pass.view_is ∙ (ap (λ z. z.slots) l.own.0 ∙ sym (ap (λ (w : WordsState). w.table.slots) c.words.view_is)) in
    let slots = c.words.invariant.slots in
    let few : 2 ^ c.words.inside.settings.s ≤ 2 ^ 10 = pow_mono c.words.invariant.range.stripes in
    omega arith
