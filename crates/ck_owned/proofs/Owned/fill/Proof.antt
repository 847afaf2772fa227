-- `fill` writes the value to the block, and gives its pointer up.
use Rattle.std.proofs.Common.{◌≡◌, List, [], ◌∷◌, ◌++◌, refl}
use mir.Syntax.{a_type}
use mir.Val.{Val}
use mir.MapTy.{inst_fn}
use base.Fraction.{full_share}
use base.Logic.{SProp, emp}
use base.Fml.{ftrue, fsep, flft}
use prog.Wp.{WpFn}
use types.Kit.{‵, raw, ◌⊛◌, prop, at_ret, ◌$◌, ◌∵◌, !, qed, by, move, keep, use0, use2, split, fsplit, fjoin, rewrite, regoal}
use types.Run.{init, stop, fld, of_opd, no_more, and_then, assigns_last, first, blocks, exec, returns, enter}
use types.ByLocal.{alloc_all, pass_all, free_all, look_at, get, get_in, through, sets, env}
use types.Part.{agg, sub, whole}
use contract.Monad.{fact, fact_i}
use contract.BorrowLft.{◌⊑◌}
use contract.Running.{tables}
use denote.Exit.{no}
use denote.Memory.{part_at}
use denote.RawPtr.{block_ptr}
use denote.Param.{param, layout, layouts}
use denote.Param.Laws.{param_laws}
use denote.Signature.{plain}
use denote.Steps.{nothing}
use denote.Triple.Walked.{Stays, stay_dropped, walk_of, Goes-dropped}
use borrow.Table.OneValue.{part_in}
use Rattle.core.proofs.alloc.Calls.{Goes-blank}
use Rattle.core.proofs.alloc.Shapes.{after}
use Rattle.core.proofs.cell.Inside.{one}
use Rattle.std.specs.declared.option.Option.TheVariants.{Some}
use Rattle.std.proofs.raw_atomic.Walks.{proved_at, leaves}
use Rattle.std_alloc.proofs.RawLayout.{as_written}
use Rattle.ck_owned.specs.Place.{place_owns}
use Rattle.ck_owned.proofs.Places.{word, word_fits, struct_of_place, place_of_box, vacancy, room_word, room_fits, room_out}
use Rattle.ck_owned.specs.contracts.Owned.{the_type}
use Rattle.ck_owned.specs.contracts.Owned.fill as f
use Rattle.ck_owned.specs.contracts.Owned.fill.Key.{name as #self}
use Rattle.ck_owned.proofs.Owned.fill.Statement.{statement}
use Rattle.ck_owned.proofs.Owned.fill.Code as code

pub fill_spec : {M : Type 1} → statement M
fill_spec {M = M} 𝓤 𝓛 𝓜 𝓡 wired T L =
    let 𝓣 = tables 𝓤 𝓛.H 𝓜 𝓡 𝓡.env in let E = f.ended T in let c = f.clauses T 𝓛 𝓜.mem 𝓡.returns in let R = param 0 T in
    let at = layouts (a_type ∷ []) (T, tt) in let fn = inst_fn at code.function in
    let stays : Stays E.signature.params E.kept = (stay_dropped (plain (λ _. vacancy R)) no, (stay_dropped (plain (λ _. R)) no, tt)) in
    proved_at 𝓛 E stays c 𝓜 𝓡 (Goes-blank 𝓛 1 (plain (λ _. vacancy R)) no (λ κs x w. tt), (Goes-dropped 𝓛 1 (plain (λ _. R)) no (λ κs x w. refl), tt)) (#self at) fn (code.unfolded 𝓤 𝓛.H 𝓜 𝓡 wired (T, tt)) (λ z are.
    let κ = z.0.0.0 in let q = z.0.1.0 in let d = z.0.3.0 in let x = z.0.3.1.0 in let Post : Val → SProp 𝓤 = (walk_of 𝓛 E stays c).post z in
    let v = one (layout R) z.0.4.1.0 (((param_laws 0 T L).lawful 𝓛).typed x z.0.4.1.0 are.1.0) in
    qed 𝓛 (((‵ (flft κ q) ⊛ ‵ ftrue) ⊛ ‵ (fsep ((vacancy R).own_val d z.0.4.0) (fsep (R.own_val x z.0.4.1.0) ftrue))) ∷ (raw (fact 𝓤 (κ ⊑ T.lives)) ⊛ ‵ ftrue) ∷ []) ∵
    split ! $ move ! (1 ∷ []) $ fsplit ! $ room_out R ! d z.0.4.0 (λ b o hv told fits.
    let w = room_word b o hv in let p = block_ptr b o in
    move ! (2 ∷ []) $ fsplit ! $ rewrite ! 0 (λ (us : List Val). ‵ (R.own_val x us)) v.1 refl $
    regoal ! (λ (us : List Val). prop (WpFn 𝓤 𝓛.H 𝓣.C 𝓣.Λ fn (us ++ (z.0.4.1.0 ++ [])) Post)) told refl $
    regoal ! (λ (us : List Val). prop (WpFn 𝓤 𝓛.H 𝓣.C 𝓣.Λ fn (w ∷ (us ++ [])) Post)) v.1 refl $
    -- [the room; the value; the token; the token of the call]
    move ! (2 ∷ 0 ∷ 3 ∷ 4 ∷ []) $ as_written ! (layout R) b o $
    enter ! 𝓣.C 𝓣.Λ fn (w ∷ v.0 ∷ []) _ $ alloc_all ! (λ l. pass_all ! refl (room_fits b o hv fits, (v.2, tt)) $ let Ev = env fn.locals l in
    sets ! (of_opd ! (get_in ! (fld ! refl (stop !)) (sub ! 0 refl (whole !)))) refl (tt, tt) $
    first ! $ blocks ! $ sets ! (of_opd ! (get ! refl)) refl v.2 $ assigns_last ! (of_opd ! (get ! refl)) (through ! refl (stop !)) (init ! 0 refl v.2) $
    exec ! 𝓣.C 𝓣.Λ Ev (after 2 fn.body) (at_ret Ev Post) $
    sets ! (agg ! (and_then ! (get ! refl) (no_more !))) refl (word_fits p) $
    returns ! (look_at ! 0 refl) $ free_all ! refl $
    use2 𝓛 (‵ (part_at R full_share x b o)) (part_in 𝓛 R refl full_share x b o v.0) $ fjoin ! $
    place_of_box R ! d.alloc p x $ struct_of_place (the_type R).name (the_type R).types 𝓛 ! p (place_owns R p (Some x)) $
    use0 𝓛 (raw (fact 𝓤 (Some x ≡ Some x))) (fact_i 𝓤 (Some x ≡ Some x) (emp 𝓤) refl) $
    nothing ! $ nothing ! $ fjoin ! $ nothing ! $ fjoin ! $ keep ! (3 ∷ 0 ∷ 2 ∷ 1 ∷ []) $ by ! (leaves 𝓛 E stays c z (word p) (record { at = p; held = Some x }) (tt, (tt, tt)) (tt, (tt, tt))))))
