-- `take` reads a value and leaves its place empty.
use mathlib.Core.Path.{refl}
use Prim.Native.Nat.{ℕ, ◌+◌, ◌*◌}
use mathlib.Core.List.{List, [], ◌∷◌}
use base.Fraction.{full_share}
use mir.Syntax.{Fn, w64, named}
use mir.MapTy.{inst_fn}
use mir.Val.{Val, vint, vptr}
use base.Fml.{ftrue, fat, flft}
use contract.BorrowLft.{◌⊑◌}
use types.Part.{whole, sub, look_in}
use types.Run.{look, forget, stop, fld, load, size_lit, of_opd, bin, first, blocks, exec, returns, enter}
use types.ByLocal.{alloc_all, pass_all, free_all, look_at, get, through, sets, sets_last, env}
use denote.Exit.{yes}
use denote.RattleType.{owns}
use denote.Plain.{uint_vals, uint_Tells}
use denote.Ref.{mut_vals, mut_Tells}
use denote.Builtin.{usize}
use denote.Signature.{plain, types_at}
use Rattle.core.proofs.mem.Param.{El, args, elτ, Good}
use Rattle.core.proofs.mem.Facts.{says_three}
use Rattle.std_alloc.proofs.RawLayout.{as_raw}
use Rattle.std_alloc.proofs.VecSteps.Shapes.{after}
use lib.ListN.{get_or}
use contract.Monad.{fact}
use contract.Running.{tables}
use types.Kit.{‵, raw, ◌⊛◌, some, given, at_ret, ◌$◌, ◌∵◌, !, qed, move, keep, use1, drop, split, join, pick, learn, fsplit, fsplit3, fjoin, fjoin3, feq_i, suffices, done}
use denote.Steps.{nothing}
use denote.Triple.Clauses.{Ended}
use denote.Triple.Walked.{Stays, stay_dropped, stay_ref, walk_of, ends_at, Goes-dropped, Goes-ref}
use Rattle.std.proofs.raw_atomic.Walks.{proved}
use Rattle.std.specs.Prelude.{None, Some, IsSome}
use Rattle.ck_room.proofs.Memory.{sz, value_out}
use Rattle.ck_room.proofs.Steps.{Pr, el_d, with_place, spaced, full, opened_at, closed_at}
use Rattle.ck_room.specs.contracts.Places.take as F
use Rattle.ck_room.specs.contracts.Places.take.Key.{name as #self}
use Rattle.ck_room.proofs.Places.take.Statement.{statement}
use Rattle.ck_room.proofs.Places.take.Code as code

pub take_spec : {M : Type 1} → statement M
take_spec 𝓤 𝓛 𝓜 𝓡 wired X L =
    let E : El = record { row = X; laws = L } in let fn : Fn = inst_fn (args E) code.function in let En : Ended = F.ended X in let c = F.clauses X 𝓛 𝓜.mem 𝓡.returns in
    let hs : Stays En.signature.params En.kept = (stay_ref (0 ∷ []) tt (plain (λ _. Pr E)), (stay_dropped (plain (λ _. usize)) yes, tt)) in let W = walk_of 𝓛 En hs c in let 𝓣 = tables 𝓤 𝓛.H 𝓜 𝓡 𝓡.env in
    proved 𝓛 En hs c 𝓜 𝓡 (Goes-ref 𝓛 2 0 tt (plain (λ _. Pr E)), (Goes-dropped 𝓛 2 (plain (λ _. usize)) yes (λ κs x f. refl), tt)) (#self (args E)) fn (code.unfolded 𝓤 𝓛.H 𝓜 𝓡 wired (X, tt))
    (λ κs. (mut_vals, (uint_vals w64, tt))) (λ κs. (mut_Tells (named 0) κs.0 (Pr E), (uint_Tells w64, tt))) (λ κs qs bounds a g are.
    let y : W.Ghost = ((κs, qs, bounds, a, (mut_vals a.0, (uint_vals w64 a.1.0, tt))), g) in
    let rb : ℕ = a.0.ref_ptr.0 in let ro : ℕ = a.0.ref_ptr.1 in let h : el_d E = a.0.now in let i : ℕ = a.1.0 in let s : ℕ = sz E in
    qed 𝓛 (((‵ (flft κs.0 qs.0) ⊛ ‵ (flft κs.1.0 qs.1.0) ⊛ ‵ ftrue) ⊛ ‵ (owns (types_at En.signature.params κs) a y.0.4)) ∷ (raw (fact 𝓤 (κs.1.0 ⊑ X.lives)) ⊛ raw (fact 𝓤 (IsSome (get_or h.items i None)))) ∷ []) ∵
    move ! (1 ∷ []) $ split ! $ drop ! $ full E ! h i (λ x found ix. split ! $ split ! $ move ! (2 ∷ []) $ fsplit ! $ fsplit3 ! $ keep ! (1 ∷ 2 ∷ 4 ∷ 5 ∷ []) $
    enter ! 𝓣.C 𝓣.Λ fn (vptr rb ro ∷ vint w64 i ∷ []) _ $ alloc_all ! (λ l. pass_all ! refl ((tt, tt), ((tt, record { fits = are.1.0.1 }), tt)) $
    let Ev = env fn.locals l in
    opened_at E ! tt h rb ro i (Some x) ix found (λ b o at fit. let small = spaced E h i ix fit in
    use1 𝓛 (some (λ (v : Val). given (Good E v) (‵ (fat full_share (elτ E) b (i * s + o) v) ⊛ ‵ (X.own_val x (v ∷ []))))) (value_out E 𝓛 x b (i * s + o)) $ pick ! (λ v. learn ! (λ tv. split ! $
    -- [the cell; what x owns; the other places; the word; the open borrow; obs; auth; the
    -- other token]
    first ! $ blocks ! $
    sets ! (of_opd ! (load ! (through ! refl (fld ! refl (stop !))) (look_in ! 3 (sub ! 0 refl (whole !))))) refl (tt, tt) $
    sets ! (bin ! (get ! refl) (size_lit ! (record { fits = small.0 })) (record { fits = small.1 })) refl (tt, record { fits = small.1 }) $
    sets ! (bin ! (get ! refl) (get ! refl) tt) refl (tt, tt) $
    sets_last ! (of_opd ! (load ! (through ! refl (stop !)) (look ! 0 refl))) refl tv $
    exec ! 𝓣.C 𝓣.Λ Ev (after 1 fn.body) (at_ret Ev (W.post y)) $ sets ! (of_opd ! (get ! refl)) refl tv $
    forget ! 0 refl $ as_raw ! (elτ E) b (i * s + o) $ move ! (0 ∷ 2 ∷ 3 ∷ 4 ∷ 5 ∷ 6 ∷ []) $ closed_at E ! tt h b o rb ro i None ix at fit $
    returns ! (look_at ! 0 refl) $ free_all ! refl $
    -- [obs; the borrow; the token; what x owns; the other token]
    suffices ! _ (ends_at 𝓛 En hs c y v x (with_place E h i None, (tt, tt)) (tt, (tt, tt))) $ says_three ! (found, refl, refl) $
    feq_i ! (List Val) (vptr rb ro ∷ []) (vptr rb ro ∷ []) refl $ fjoin3 ! $ nothing ! $ nothing ! $ fjoin ! $ move ! (1 ∷ 0 ∷ []) $ fjoin ! $
    move ! (1 ∷ 3 ∷ []) $ join ! $ keep ! (0 ∷ 1 ∷ 2 ∷ []) $ done !))))))
