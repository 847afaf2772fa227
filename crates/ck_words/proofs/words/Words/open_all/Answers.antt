use Rattle.std.proofs.Common.{◌≡◌, ◌≤◌, ◌∙◌, ◌++◌, ◌∷◌, [], ap, sym, subst, refl, set, arith}
use Rattle.ck_model.specs.declared.settings.Settings.{Settings}
use Rattle.ck_words.specs.Words.{WordsState}
use Rattle.ck_words.specs.Passes.{PassState, IsPassOf}
use Rattle.ck_words.specs.Closing.{AreAllPasses}
use Rattle.ck_words.proofs.Dealt.{first_read, keeps_next, dealt_more, dealt_whole, dealt_all}
use Rattle.ck_words.proofs.words.Words.open_all.Goals as goal

pub deal-requires-clause-kept : goal.deal-requires-clause-kept
deal-requires-clause-kept g c =
    let w : WordsState = record { table = c.words.inside.table.shared.table_id; settings = c.words.inside.settings } in
    let same : w.settings ≡ c.args.settings = ap (λ (x : WordsState). x.settings) c.words.view_is ∙ c.in_ok-words.ensures.settings in
    let callers = ap (λ (x : Settings). x.callers) same in
    keeps_next w.table w.settings c.loop-i._i c.index_mut.result.now (omega arith) (first_read _ _ _ _ c.loop-i.invariant c.index_mut.ensures.value)

pub deal-requires-clause-new : goal.deal-requires-clause-new
deal-requires-clause-new g c = ap (λ (p : PassState g.row.V.Denot). p.view.watched) (first_read _ _ _ _ c.loop-i.invariant c.index_mut.ensures.value)

pub loop-i-preserved : goal.loop-i-preserved
loop-i-preserved g c =
    let w : WordsState = record { table = c.words.inside.table.shared.table_id; settings = c.words.inside.settings } in
    let same : w.settings ≡ c.args.settings = ap (λ (x : WordsState). x.settings) c.words.view_is ∙ c.in_ok-words.ensures.settings in
    let callers = ap (λ (x : Settings). x.callers) same in
    let own : IsPassOf w c.in_ok-pass.pass = subst (λ (x : WordsState). IsPassOf x c.in_ok-pass.pass) (sym c.words.view_is) c.in_ok-pass.ensures.pass in
    let first = first_read _ _ _ c.index_mut.result.now c.loop-i.invariant c.index_mut.ensures.value in
    c.in_ok-push-2.ensures.items ∙ ((λ j. set (c.loop-i.invariant j) 0 c.deal.new.first ++ c.in_ok-pass.pass ∷ [])
    ∙ dealt_more w w.settings c.loop-i._i c.index_mut.result.now c.deal.new.first c.in_ok-pass.pass (omega arith) (omega arith) first own c.in_ok-pass.ensures.idle c.in_ok-pass.ensures.view c.in_ok-pass.ensures.first)

pub returns-clause-all : goal.returns-clause-all
returns-clause-all g c =
    let w : WordsState = record { table = c.words.inside.table.shared.table_id; settings = c.words.inside.settings } in
    let same : w.settings ≡ c.args.settings = ap (λ (x : WordsState). x.settings) c.words.view_is ∙ c.in_ok-words.ensures.settings in
    let callers = ap (λ (x : Settings). x.callers) same in
    subst (λ (x : WordsState). AreAllPasses x c.loop-i.passes.items) c.words.view_is
    (dealt_all w w.settings c.loop-i.passes.items (subst (λ (x : Settings). x.power ≤ x.max) (sym same) c.requires.growth) refl (dealt_whole w.table w.settings c.loop-i._i c.loop-i.passes.items (omega arith) (omega arith) c.loop-i.invariant))
