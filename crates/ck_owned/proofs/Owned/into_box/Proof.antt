-- `into_box` tests the pointer, and takes back the box that stands there.
use Rattle.std.proofs.Common.{◌≡◌, List, [], ◌∷◌, ◌++◌, refl, sym, ap, ◌∙◌, lit<}
use mir.Syntax.{a_type}
use mir.Val.{Val, vcons, vnil}
use mir.MapTy.{inst_fn}
use base.Fraction.{full_share}
use base.Logic.{SProp, emp, id⊢}
use base.Fml.{ftrue, fsep, flft}
use prog.Wp.{WpFn}
use types.Kit.{‵, raw, ◌⊛◌, some, later, at_ret, prop, ◌$◌, ◌∵◌, !, qed, by, move, keep, drop, use0, use1, split, split3, join, fsplit, fsplit3, fjoin, feq_i, pick, await, rewrite, regoal}
use types.Run.{stop, fld, lit, bin, of_opd, no_more, and_then, first, blocks, branches, skips, exec, returns, returns_within, enter}
use types.ByLocal.{alloc_all, pass_all, free_all, look_at, get, get_in, sets, lands_last, is, env}
use types.Part.{agg, sub, whole}
use types.Match.{live}
use contract.Monad.{fact, fact_i}
use contract.BorrowLft.{◌⊑◌}
use contract.Running.{tables}
use denote.Exit.{yes, no}
use denote.RattleType.{RattleType}
use denote.Laws.{Is, shows}
use denote.RawPtr.{ptr_val, rawptr_Lawful}
use denote.Param.{param, layout, layouts}
use denote.Param.Laws.{param_laws}
use denote.Signature.{plain, type_at}
use denote.Steps.{nothing, heard, peeks}
use denote.Triple.Call.{calls_at_last}
use denote.Triple.Clauses.{Lasts, lasts}
use denote.Triple.Spec.{triple_of}
use denote.Triple.Table.{framed}
use denote.Triple.Walked.{Stays, stay_dropped, walk_of, Goes-dropped}
use Rattle.core.proofs.alloc.Shapes.{after}
use Rattle.core.proofs.cell.Inside.{Good, one}
use Rattle.core.proofs.option.Made.{Some-of, none_of}
use Rattle.std.specs.declared.option.Option.TheVariants.{None, Some}
use Rattle.std.specs.contracts.alloc.Global as heap
use Rattle.std.proofs.alloc.Global.TheLaws as heap_laws
use Rattle.std.specs.contracts.impls.GlobalAllocator.TheImpl.{ghosts, dict}
use Rattle.std.proofs.impls.GlobalAllocator.TheImpl.Met.{passed}
use Rattle.std.proofs.raw_atomic.Walks.{proved_at, leaves}
use Rattle.std_alloc.proofs.ResultValues.{and_tt}
use Rattle.std_alloc.proofs.boxed.Box.TheLaws as box_laws
use Rattle.std_alloc.specs.contracts.boxed.Box.from_raw as callee
use Rattle.std_alloc.proofs.boxed.Box.from_raw.Met.{met}
use Rattle.ck_owned.proofs.Destruct++none.drop.Symbol.{glues}
use Rattle.ck_owned.proofs.Places.{word, word_fits, null_is_null, block_is_not, boxed, Handle, handle_laws, spare, box_of_place, both_tokens, heap_passed, heap_returned}
use Rattle.ck_owned.proofs.Owned.TheLaws.{lowers}
use Rattle.ck_owned.specs.contracts.Owned.{the_row}
use Rattle.ck_owned.specs.contracts.Owned.into_box as f
use Rattle.ck_owned.specs.contracts.Owned.into_box.Key.{name as #self}
use Rattle.ck_owned.proofs.Owned.into_box.Statement.{statement}
use Rattle.ck_owned.proofs.Owned.into_box.Code as code

pub into_box_spec : {M : Type 1} → statement M
into_box_spec {M = M} 𝓤 𝓛 𝓜 𝓡 wired T L =
    let 𝓣 = tables 𝓤 𝓛.H 𝓜 𝓡 𝓡.env in let E = f.ended T in let c = f.clauses T 𝓛 𝓜.mem 𝓡.returns in
    let R = param 0 T in let B : RattleType = boxed R in
    let at = layouts (a_type ∷ []) (T, tt) in let fn = inst_fn at code.function in
    let stays : Stays E.signature.params E.kept = (stay_dropped (plain (λ _. the_row R)) no, (stay_dropped (plain (λ _. heap.the_row)) yes, tt)) in
    proved_at 𝓛 E stays c 𝓜 𝓡 (Goes-dropped 𝓛 1 (plain (λ _. the_row R)) no (λ κs x w. refl), (Goes-dropped 𝓛 1 (plain (λ _. heap.the_row)) yes (λ κs x w. refl), tt))
    (#self at) fn (code.unfolded 𝓤 𝓛.H 𝓜 𝓡 wired (T, tt)) (λ z are.
    let κ = z.0.0.0 in let q = z.0.1.0 in let d = z.0.3.0 in let p = d.at in let a = z.0.3.1.0 in let Post : Val → SProp 𝓤 = (walk_of 𝓛 E stays c).post z in
    let told : z.0.4.0 ≡ word p ∷ [] = (lowers R (param_laws 0 T L)).val_is d z.0.4.0 are.0 in
    let h = one (layout heap.the_row) z.0.4.1.0 ((heap_laws.the_row_laws.lawful 𝓛).typed a z.0.4.1.0 are.1.0) in
    let Out : RattleType = type_at E.signature.result z.0.0 in let p_fits = ((rawptr_Lawful 𝓛).typed p _ refl).0 in
    qed 𝓛 (((‵ (flft κ q) ⊛ ‵ ftrue) ⊛ ‵ (fsep ((the_row R).own_val d z.0.4.0) (fsep (heap.the_row.own_val a z.0.4.1.0) ftrue))) ∷ (raw (fact 𝓤 (κ ⊑ T.lives)) ⊛ ‵ ftrue) ∷ []) ∵
    split ! $ split ! $ move ! (2 ∷ []) $ fsplit3 ! $ rewrite ! 1 (λ (us : List Val). ‵ (heap.the_row.own_val a us)) h.1 refl $ fsplit ! $ drop ! $
    regoal ! (λ (us : List Val). prop (WpFn 𝓤 𝓛.H 𝓣.C 𝓣.Λ fn (us ++ (z.0.4.1.0 ++ [])) Post)) told refl $
    regoal ! (λ (us : List Val). prop (WpFn 𝓤 𝓛.H 𝓣.C 𝓣.Λ fn (word p ∷ (us ++ [])) Post)) h.1 refl $
    enter ! 𝓣.C 𝓣.Λ fn (word p ∷ h.0 ∷ []) _ $ alloc_all ! (λ l. pass_all ! refl (word_fits p, (h.2, tt)) $ let Ev = env fn.locals l in
    sets ! (of_opd ! (get_in ! (fld ! refl (stop !)) (sub ! 0 refl (whole !)))) refl p_fits $ sets ! (of_opd ! (get ! refl)) refl p_fits $
    -- [what stands at p; the handle; nothing; the token; nothing; the bound]
    box_of_place R ! a p d.held
    (λ null nothing_held. let test = null_is_null p null in let v = live 0 vnil in let v_fits : Good (layout Out) v = (tt, (record { fits = lit< tt }, tt)) in
    sets ! (is ! (bin ! (get ! refl) (lit ! tt) test.0) test.1) refl (tt, tt) $ first ! $ branches ! (get ! refl)
    (λ _. sets ! (agg ! (and_then ! (lit ! tt) (no_more !))) refl v_fits $
    returns_within ! Post refl (look_at ! 0 refl) $ free_all ! refl $
    use0 𝓛 (‵ (Out.own_val None (v ∷ []))) (none_of 𝓛 B) $ use0 𝓛 (raw (fact 𝓤 (d.held ≡ None))) (fact_i 𝓤 (d.held ≡ None) (emp 𝓤) nothing_held) $
    move ! (4 ∷ 5 ∷ []) $ join ! $ nothing ! $ nothing ! $ fjoin ! $ nothing ! $ fjoin ! $ keep ! (1 ∷ 0 ∷ 3 ∷ 2 ∷ []) $ by ! (leaves 𝓛 E stays c z v None (tt, (tt, tt)) (tt, (tt, tt))))
    (λ wrong. absurd wrong))
    (λ x held in_a_block testable. let test = block_is_not p in_a_block testable in
    sets ! (is ! (bin ! (get ! refl) (lit ! tt) test.0) test.1) refl (tt, tt) $ first ! $ branches ! (get ! refl) (λ wrong. absurd wrong) (λ _. skips ! $
    exec ! 𝓣.C 𝓣.Λ Ev (after 4 fn.body) (at_ret Ev Post) $ first ! $ blocks ! $ sets ! (of_opd ! (get ! refl)) refl h.2 $ sets ! (of_opd ! (get ! refl)) refl p_fits $
    move ! (5 ∷ []) $ split ! $ move ! (5 ∷ 0 ∷ 2 ∷ []) $ heap_passed ! $ move ! (2 ∷ []) $ feq_i ! (List Val) (ptr_val p ∷ []) (ptr_val p ∷ []) refl $ fjoin ! $ move ! (3 ∷ 0 ∷ []) $ fjoin ! $
    let k = triple_of 𝓛 (callee.signature T Handle ghosts dict spare) (callee.spec T Handle ghosts dict spare 𝓛 𝓜.mem 𝓡.returns) in
    let y : k.Ghost = (((κ, ([], tt)), (q, (full_share, tt)), tt, (a, (p, tt)), (h.0 ∷ [], (ptr_val p ∷ [], tt))), x) in
    move ! (1 ∷ 0 ∷ []) $ join ! $ join ! $ use1 𝓛 (raw (k.pre y)) (id⊢ 𝓤 _) $
    calls_at_last ! (framed 𝓤 𝓛.H 𝓜 𝓣) k (met 𝓤 𝓛 𝓜 𝓡 (code.calls-std_alloc::boxed::Box::from_raw 𝓡.env wired) T Handle L handle_laws ghosts dict spare
    (passed 𝓡.env (code.calls-std_heap::GlobalAllocator::allocate 𝓡.env wired) (code.calls-std_heap::GlobalAllocator::deallocate 𝓡.env wired)
    (code.calls-std_heap::GlobalAllocator::grow 𝓡.env wired) (code.calls-std_heap::GlobalAllocator::shrink 𝓡.env wired) M 𝓤 𝓛 𝓜 𝓡)
    (glues 𝓡.env (code.calls-ck_owned::Destruct++none::drop 𝓡.env wired) Handle handle_laws M 𝓤 𝓛 𝓜 𝓡)) y (and_then ! (get ! refl) (and_then ! (get ! refl) (no_more !))) (λ u.
    use1 𝓛 (later (some (λ (b : B.Denot). (both_tokens κ q ⊛ ‵ (B.own_val b (u ∷ []))) ⊛ some (λ (ws : Lasts (callee.ended T Handle ghosts dict spare) y.0.0 y.0.3).
    ‵ (lasts (callee.ended T Handle ghosts dict spare) y.0.0 y.0.3 ws) ⊛ raw (fact 𝓤 (b.value ≡ x)) ⊛ raw (fact 𝓤 (b.alloc ≡ a)))))) (id⊢ 𝓤 (k.post y u)) $
    await ! tt $ pick ! (λ b. split ! $ split ! $ heap_returned ! $ move ! (2 ∷ []) $ pick ! (λ ws. split3 ! $ drop ! $ heard ! (b.value ≡ x) (λ same. drop ! $
    move ! (1 ∷ []) $ peeks ! B (Is B) (shows 𝓛 B) b (u ∷ []) (λ is_box.
    let b_fits = (((box_laws.the_row_laws R heap.the_row ghosts (param_laws 0 T L) heap_laws.the_row_laws).lawful 𝓛).typed b (u ∷ []) is_box).0 in
    let v = live 1 (vcons u vnil) in let v_fits : Good (layout Out) v = (and_tt _ b_fits.0, (record { fits = lit< tt }, (b_fits.1, tt))) in
    lands_last ! refl b_fits $ exec ! 𝓣.C 𝓣.Λ Ev (after 5 fn.body) (at_ret Ev Post) $ sets ! (of_opd ! (get ! refl)) refl b_fits $
    sets ! (agg ! (and_then ! (lit ! tt) (and_then ! (get ! refl) (no_more !)))) refl v_fits $
    returns ! (look_at ! 0 refl) $ free_all ! refl $
    use1 𝓛 (‵ (Out.own_val (Some b) (v ∷ []))) (Some-of 𝓛 B b u) $ use0 𝓛 (raw (fact 𝓤 (d.held ≡ Some b.value))) (fact_i 𝓤 (d.held ≡ Some b.value) (emp 𝓤) (held ∙ ap Some (sym same))) $
    nothing ! $ nothing ! $ fjoin ! $ nothing ! $ fjoin ! $ keep ! (3 ∷ 0 ∷ 2 ∷ 1 ∷ []) $ by ! (leaves 𝓛 E stays c z v (Some b) (tt, (tt, tt)) (tt, (tt, tt))))))))))))
