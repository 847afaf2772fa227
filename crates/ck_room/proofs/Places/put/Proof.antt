-- `put` writes a value to an empty place.
use mathlib.Core.List.{List, [], ◌∷◌}
use mir.Syntax.{Fn, w64}
use mir.Val.{Val, vunit, vint, vptr}
use base.Fml.{ftrue, flft}
use mir.MapTy.{inst_fn}
use contract.BorrowLft.{◌⊑◌}
use denote.RattleType.{owns}
use denote.Signature.{plain, types_at}
use types.Part.{whole, sub, look_in}
use types.Run.{init, stop, fld, load, size_lit, unit_lit, of_opd, bin, assigns_last, first, blocks, exec, returns, enter}
use types.ByLocal.{alloc_all, pass_all, free_all, look_at, get, through, sets, env}
use denote.Exit.{yes, no}
use denote.Builtin.{usize}
use denote.Triple.Entry.{Vals}
use Rattle.core.proofs.mem.Param.{El, R, args, el_x, elτ, lawful, one}
use Rattle.core.proofs.mem.Facts.{says_two}
use Rattle.std_alloc.proofs.RawLayout.{as_written}
use Rattle.std_alloc.proofs.VecSteps.Shapes.{after}
use mathlib.Core.Path.{◌≡◌, refl, sym, subst}
use Prim.Native.Nat.{ℕ, ◌+◌, ◌*◌, ◌<◌}
use lib.ListN.{length, get_or}
use base.Logic.{ent}
use prog.Wp.{WpFn}
use contract.Monad.{fact}
use contract.Running.{tables}
use types.Kit.{‵, raw, ◌⊛◌, at_ret, ◌$◌, ◌∵◌, !, qed, move, keep, use2, drop, split, join, fsplit, fsplit3, fjoin, fjoin3, feq_i, suffices, done}
use denote.Steps.{heard, nothing}
use denote.Triple.Clauses.{Ended}
use denote.Triple.Walked.{Stays, stay_dropped, stay_ref, walk_of, ends_at, Goes-dropped, Goes-ref}
use Rattle.std.proofs.raw_atomic.Walks.{proved_at}
use Rattle.std.specs.Prelude.{None, Some}
use Rattle.ck_room.specs.Memory.{place}
use Rattle.ck_room.proofs.Memory.{sz, value_in}
use Rattle.ck_room.proofs.Steps.{Pr, el_d, with_place, spaced, opened_at, closed_at}
use Rattle.ck_room.specs.contracts.Places.put as F
use Rattle.ck_room.specs.contracts.Places.put.Key.{name as #self}
use Rattle.ck_room.proofs.Places.put.Statement.{statement}
use Rattle.ck_room.proofs.Places.put.Code as code

pub put_spec : {M : Type 1} → statement M
put_spec 𝓤 𝓛 𝓜 𝓡 wired X L =
    let E : El = record { row = X; laws = L } in let fn : Fn = inst_fn (args E) code.function in let En : Ended = F.ended X in let c = F.clauses X 𝓛 𝓜.mem 𝓡.returns in
    let hs : Stays En.signature.params En.kept = (stay_ref (0 ∷ []) tt (plain (λ _. Pr E)), (stay_dropped (plain (λ _. usize)) yes, (stay_dropped (plain (λ _. R E)) no, tt))) in
    let W = walk_of 𝓛 En hs c in let 𝓣 = tables 𝓤 𝓛.H 𝓜 𝓡 𝓡.env in
    proved_at 𝓛 En hs c 𝓜 𝓡 (Goes-ref 𝓛 2 0 tt (plain (λ _. Pr E)), (Goes-dropped 𝓛 2 (plain (λ _. usize)) yes (λ κs x f. refl), (Goes-dropped 𝓛 2 (plain (λ _. R E)) no (λ κs x f. refl), tt)))
    (#self (args E)) fn (code.unfolded 𝓤 𝓛.H 𝓜 𝓡 wired (X, tt)) (λ z are.
    let κs = z.0.0 in let qs = z.0.1 in let a = z.0.3 in let got = one E z.0.4.1.1.0 ((lawful E 𝓛).typed a.1.1.0 z.0.4.1.1.0 are.1.1.0) in let v : Val = got.0 in let tv = got.2 in
    let rb : ℕ = a.0.ref_ptr.0 in let ro : ℕ = a.0.ref_ptr.1 in let h : el_d E = a.0.now in let i : ℕ = a.1.0 in let x : el_x E = a.1.1.0 in let s : ℕ = sz E in
    let at : Vals En.signature κs → W.Ghost = λ vss. ((κs, qs, z.0.2, a, vss), z.1) in let y : W.Ghost = at (vptr rb ro ∷ [], (vint w64 i ∷ [], (v ∷ [], tt))) in
    let In : Type 0 = i < length h.items in let Empty : Type 0 = get_or h.items i None ≡ None in
    subst (λ (vss : Vals En.signature κs). ent 𝓤 (W.pre (at vss)) (WpFn 𝓤 𝓛.H 𝓣.C 𝓣.Λ fn (W.args (at vss)) (W.post (at vss)))) (sym (λ k. (are.0.0 k, (are.1.0.0 k, (got.1 k, tt))))) (
    qed 𝓛 (((‵ (flft κs.0 qs.0) ⊛ ‵ (flft κs.1.0 qs.1.0) ⊛ ‵ ftrue) ⊛ ‵ (owns (types_at En.signature.params κs) a y.0.4)) ∷ (raw (fact 𝓤 (κs.1.0 ⊑ X.lives)) ⊛ raw (fact 𝓤 In) ⊛ raw (fact 𝓤 Empty)) ∷ []) ∵
    move ! (1 ∷ []) $ split ! $ drop ! $ split ! $ heard ! In (λ ix. heard ! Empty (λ empty.
    split ! $ split ! $ move ! (2 ∷ []) $ fsplit3 ! $ fsplit3 ! $ move ! (4 ∷ []) $ fsplit ! $ keep ! (3 ∷ 4 ∷ 6 ∷ 0 ∷ 7 ∷ []) $
    enter ! 𝓣.C 𝓣.Λ fn (vptr rb ro ∷ vint w64 i ∷ v ∷ []) _ $ alloc_all ! (λ l. pass_all ! refl ((tt, tt), ((tt, record { fits = are.1.0.1 }), (tv, tt))) $
    let Ev = env fn.locals l in
    opened_at E ! tt h rb ro i None ix empty (λ b o at_b fit. let small = spaced E h i ix fit in as_written ! (elτ E) b (i * s + o) $
    -- [the room; the other places; the word; the open borrow; obs; auth; what x owns; the
    -- other token]
    first ! $ blocks ! $
    sets ! (of_opd ! (load ! (through ! refl (fld ! refl (stop !))) (look_in ! 2 (sub ! 0 refl (whole !))))) refl (tt, tt) $
    sets ! (bin ! (get ! refl) (size_lit ! (record { fits = small.0 })) (record { fits = small.1 })) refl (tt, record { fits = small.1 }) $
    sets ! (bin ! (get ! refl) (get ! refl) tt) refl (tt, tt) $ sets ! (of_opd ! (get ! refl)) refl tv $
    assigns_last ! (of_opd ! (get ! refl)) (through ! refl (stop !)) (init ! 0 refl tv) $
    exec ! 𝓣.C 𝓣.Λ Ev (after 1 fn.body) (at_ret Ev (W.post y)) $ sets ! (of_opd ! (unit_lit !)) refl (tt, tt) $
    move ! (0 ∷ 6 ∷ []) $ use2 𝓛 (‵ (place (R E) b (i * s + o) (Some x))) (value_in E 𝓛 x b (i * s + o) v) $
    closed_at E ! tt h b o rb ro i (Some x) ix at_b fit $ returns ! (look_at ! 0 refl) $ free_all ! refl $
    suffices ! _ (ends_at 𝓛 En hs c y vunit tt (with_place E h i (Some x), (tt, (tt, tt))) (tt, (tt, (tt, tt)))) $ says_two ! (refl, refl) $
    feq_i ! (List Val) (vptr rb ro ∷ []) (vptr rb ro ∷ []) refl $ fjoin3 ! $ nothing ! $ nothing ! $ fjoin ! $ nothing ! $ fjoin ! $ move ! (1 ∷ 0 ∷ []) $ fjoin ! $
    move ! (1 ∷ 2 ∷ []) $ join ! $ feq_i ! (List Val) (vunit ∷ []) (vunit ∷ []) refl $ keep ! (1 ∷ 2 ∷ 0 ∷ []) $ done !))))))
