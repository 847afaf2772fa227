-- `open` tests the pointer, and moves the value that stands there out of its block.
use Rattle.std.proofs.Common.{◌≡◌, List, [], ◌∷◌, ◌++◌, refl, subst, lit<}
use mir.Syntax.{a_type}
use mir.Raw.{raw as bare}
use mir.Val.{Val, vcons, vnil}
use mir.MapTy.{inst_fn}
use base.Fraction.{full_share}
use base.Logic.{SProp, emp, never, fst∗}
use base.Fml.{ftrue, fsep, flft, fat, froom}
use prog.Wp.{WpFn}
use types.Logic.{sem}
use types.Kit.{‵, raw, ◌⊛◌, some, given, prop, at_ret, ◌$◌, ◌∵◌, !, qed, by, move, keep, drop, use0, use1, use2, pick, learn, split, fsplit, fjoin, rewrite, regoal}
use types.Run.{stop, fld, lit, bin, of_opd, load, look, no_more, and_then, first, blocks, branches, skips, exec, returns, returns_within, enter}
use types.ByLocal.{alloc_all, pass_all, free_all, look_at, get, get_in, through, sets, sets_last, is, env}
use types.Part.{agg, sub, whole}
use types.Match.{live}
use contract.Monad.{fact, fact_i}
use contract.BorrowLft.{◌⊑◌}
use contract.Running.{tables}
use denote.Exit.{yes, no}
use denote.Memory.{lone}
use denote.RattleType.{RattleType}
use denote.RawPtr.{Ptr, block_ptr, null_ptr, Testable, InBlock, in_a_block, rawptr_Lawful}
use denote.Param.{param, layout, layouts}
use denote.Param.Laws.{param_laws}
use denote.Signature.{plain, type_at}
use denote.Steps.{nothing}
use denote.Struct.Tuple.{Tuple}
use denote.Triple.Walked.{Stays, stay_dropped, walk_of, Goes-dropped}
use Rattle.core.proofs.alloc.Shapes.{after}
use Rattle.core.proofs.cell.Inside.{Good, one}
use Rattle.core.proofs.option.Made.{Some-of, none_of}
use Rattle.std.specs.declared.option.Option.TheVariants.{None, Some}
use Rattle.std.specs.contracts.alloc.Global as heap
use Rattle.std.proofs.alloc.Global.TheLaws as heap_laws
use Rattle.std.specs.contracts.impls.GlobalAllocator.TheImpl.{ghosts, dict}
use Rattle.std.proofs.raw_atomic.Walks.{proved_at, leaves}
use Rattle.std_alloc.specs.Box.Ownership.{box_owns}
use Rattle.std_alloc.proofs.BoxSteps.Form.{Bx}
use Rattle.std_alloc.proofs.BoxSteps.Steps.{el_out}
use Rattle.std_alloc.proofs.Pairs.{pair_val, pair_Typed, pair_of}
use Rattle.std_alloc.proofs.RawLayout.{as_raw}
use Rattle.std_alloc.proofs.ResultValues.{and_tt}
use Rattle.ck_owned.proofs.Places.{word, word_fits, null_is_null, block_is_not, spare, box_of_place, vacancy, room_word, room_fits, room_in}
use Rattle.ck_owned.proofs.Owned.TheLaws.{lowers}
use Rattle.ck_owned.specs.contracts.Owned.{the_row}
use Rattle.ck_owned.specs.contracts.Owned.open as f
use Rattle.ck_owned.specs.contracts.Owned.open.Key.{name as #self}
use Rattle.ck_owned.proofs.Owned.open.Statement.{statement}
use Rattle.ck_owned.proofs.Owned.open.Code as code

pub open_spec : {M : Type 1} → statement M
open_spec {M = M} 𝓤 𝓛 𝓜 𝓡 wired T L =
    let 𝓣 = tables 𝓤 𝓛.H 𝓜 𝓡 𝓡.env in let C = f.ended T in let c = f.clauses T 𝓛 𝓜.mem 𝓡.returns in let R = param 0 T in
    let V : RattleType = vacancy R in let B : RattleType = Tuple (R ∷ V ∷ []) in
    let E : Bx = record { row = T; laws = L; al = record { row = heap.the_row; laws = heap_laws.the_row_laws; g = ghosts; d = dict; drops = spare } } in
    let at = layouts (a_type ∷ []) (T, tt) in let fn = inst_fn at code.function in
    let stays : Stays C.signature.params C.kept = (stay_dropped (plain (λ _. the_row R)) no, (stay_dropped (plain (λ _. heap.the_row)) yes, tt)) in
    proved_at 𝓛 C stays c 𝓜 𝓡 (Goes-dropped 𝓛 1 (plain (λ _. the_row R)) no (λ κs x w. refl), (Goes-dropped 𝓛 1 (plain (λ _. heap.the_row)) yes (λ κs x w. refl), tt))
    (#self at) fn (code.unfolded 𝓤 𝓛.H 𝓜 𝓡 wired (T, tt)) (λ z are.
    let κ = z.0.0.0 in let q = z.0.1.0 in let d = z.0.3.0 in let a = z.0.3.1.0 in let Post : Val → SProp 𝓤 = (walk_of 𝓛 C stays c).post z in
    let told : z.0.4.0 ≡ word d.at ∷ [] = (lowers R (param_laws 0 T L)).val_is d z.0.4.0 are.0 in
    let h = one (layout heap.the_row) z.0.4.1.0 ((heap_laws.the_row_laws.lawful 𝓛).typed a z.0.4.1.0 are.1.0) in
    let Out : RattleType = type_at C.signature.result z.0.0 in
    qed 𝓛 (((‵ (flft κ q) ⊛ ‵ ftrue) ⊛ ‵ (fsep ((the_row R).own_val d z.0.4.0) (fsep (heap.the_row.own_val a z.0.4.1.0) ftrue))) ∷ (raw (fact 𝓤 (κ ⊑ T.lives)) ⊛ ‵ ftrue) ∷ []) ∵
    split ! $ move ! (1 ∷ []) $ fsplit ! $ move ! (1 ∷ []) $ fsplit ! $ rewrite ! 0 (λ (us : List Val). ‵ (heap.the_row.own_val a us)) h.1 refl $ move ! (2 ∷ []) $ fsplit ! $ drop ! $
    regoal ! (λ (us : List Val). prop (WpFn 𝓤 𝓛.H 𝓣.C 𝓣.Λ fn (us ++ (z.0.4.1.0 ++ [])) Post)) told refl $
    regoal ! (λ (us : List Val). prop (WpFn 𝓤 𝓛.H 𝓣.C 𝓣.Λ fn (word d.at ∷ (us ++ [])) Post)) h.1 refl $
    -- [what stands there; the handle; nothing; the token; the bound]
    box_of_place R ! a d.at d.held
    (λ null nothing_held. let p = d.at in let test = null_is_null p null in let v = live 0 vnil in let v_fits : Good (layout Out) v = (tt, (record { fits = lit< tt }, tt)) in
    enter ! 𝓣.C 𝓣.Λ fn (word p ∷ h.0 ∷ []) _ $ alloc_all ! (λ l. pass_all ! refl (word_fits p, (h.2, tt)) $
    sets ! (of_opd ! (get_in ! (fld ! refl (stop !)) (sub ! 0 refl (whole !)))) refl ((rawptr_Lawful 𝓛).typed p _ refl).0 $
    sets ! (is ! (bin ! (get ! refl) (lit ! tt) test.0) test.1) refl (tt, tt) $ first ! $ branches ! (get ! refl)
    (λ _. sets ! (agg ! (and_then ! (lit ! tt) (no_more !))) refl v_fits $
    returns_within ! Post refl (look_at ! 0 refl) $ free_all ! refl $
    use0 𝓛 (‵ (Out.own_val None (v ∷ []))) (none_of 𝓛 B) $ use0 𝓛 (raw (fact 𝓤 (d.held ≡ None))) (fact_i 𝓤 (d.held ≡ None) (emp 𝓤) nothing_held) $
    nothing ! $ nothing ! $ fjoin ! $ nothing ! $ fjoin ! $ keep ! (5 ∷ 0 ∷ 2 ∷ 1 ∷ []) $ by ! (leaves 𝓛 C stays c z v None (tt, (tt, tt)) (tt, (tt, tt))))
    (λ wrong. absurd wrong)))
    (λ x held in_block testable.
    in_a_block ! d.at (λ p. box_owns (ghosts.dealloc_token a) R p x) (fst∗ 𝓤 (never 𝓤) (sem 𝓛 (ghosts.dealloc_token a (bare (lone R.mir)) null_ptr))) (λ b o there.
    let p = block_ptr b o in let test = block_is_not p (subst InBlock there in_block) (subst Testable there testable) in
    regoal ! (λ (r : Ptr). prop (WpFn 𝓤 𝓛.H 𝓣.C 𝓣.Λ fn (word r ∷ h.0 ∷ []) Post)) there refl $ fsplit ! $
    use1 𝓛 (some (λ (v : Val). given (Good (layout T) v) (‵ (fat full_share (layout T) b o v) ⊛ ‵ (T.own_val x (v ∷ []))))) (el_out E 𝓛 x b o) $ pick ! (λ v. learn ! (λ fits. split ! $
    -- [the cell; the value; the token; the handle; nothing; the token of the call; the bound]
    enter ! 𝓣.C 𝓣.Λ fn (word p ∷ h.0 ∷ []) _ $ alloc_all ! (λ l. pass_all ! refl (word_fits p, (h.2, tt)) $ let Ev = env fn.locals l in
    let w = room_word b o h.0 in let both = pair_val v w in let u = live 1 (vcons both vnil) in
    let w_fits = room_fits b o h.0 h.2 in let both_fits = pair_Typed (layout T) (layout V) v w fits w_fits in
    let u_fits : Good (layout Out) u = (and_tt _ both_fits.0, (record { fits = lit< tt }, (both_fits.1, tt))) in
    sets ! (of_opd ! (get_in ! (fld ! refl (stop !)) (sub ! 0 refl (whole !)))) refl (tt, tt) $
    sets ! (is ! (bin ! (get ! refl) (lit ! tt) test.0) test.1) refl (tt, tt) $ first ! $ branches ! (get ! refl) (λ wrong. absurd wrong) (λ _. skips ! $
    exec ! 𝓣.C 𝓣.Λ Ev (after 3 fn.body) (at_ret Ev Post) $ first ! $ blocks ! $ sets_last ! (of_opd ! (load ! (through ! refl (stop !)) (look ! 0 refl))) refl fits $
    exec ! 𝓣.C 𝓣.Λ Ev (after 4 fn.body) (at_ret Ev Post) $ sets ! (of_opd ! (get ! refl)) refl fits $ sets ! (of_opd ! (get ! refl)) refl fits $
    sets ! (agg ! (and_then ! (get ! refl) (and_then ! (get ! refl) (no_more !)))) refl w_fits $
    sets ! (agg ! (and_then ! (get ! refl) (and_then ! (get ! refl) (no_more !)))) refl both_fits $
    sets ! (agg ! (and_then ! (lit ! tt) (and_then ! (get ! refl) (no_more !)))) refl u_fits $
    returns ! (look_at ! 0 refl) $ free_all ! refl $
    use1 𝓛 (‵ (froom (layout T) b o)) (𝓛.laws.at_room (layout T) b o v) $ as_raw ! (layout T) b o $ move ! (0 ∷ 2 ∷ 3 ∷ []) $ room_in R ! a b o h.0 $ move ! (1 ∷ 0 ∷ []) $
    use2 𝓛 (‵ (B.own_val (x, record { ptr = p; alloc = a }) (both ∷ []))) (pair_of 𝓛 R V x (record { ptr = p; alloc = a }) v w) $
    use1 𝓛 (‵ (Out.own_val (Some (x, record { ptr = p; alloc = a })) (u ∷ []))) (Some-of 𝓛 B (x, record { ptr = p; alloc = a }) both) $
    use0 𝓛 (raw (fact 𝓤 (d.held ≡ Some x))) (fact_i 𝓤 (d.held ≡ Some x) (emp 𝓤) held) $
    nothing ! $ nothing ! $ fjoin ! $ nothing ! $ fjoin ! $ keep ! (4 ∷ 0 ∷ 2 ∷ 1 ∷ []) $ by ! (leaves 𝓛 C stays c z u (Some (x, record { ptr = p; alloc = a })) (tt, (tt, tt)) (tt, (tt, tt))))))))))
