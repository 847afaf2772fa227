-- `get` hands on the `&` to the value at i that a `&` to the places holds.
use mathlib.Core.List.{List, [], ◌∷◌}
use mir.Syntax.{Fn, w64, named}
use mir.Val.{Val, vint, vptr}
use base.Fml.{ftrue, flft}
use mir.MapTy.{inst_fn}
use contract.BorrowLft.{◌⊑◌}
use denote.RattleType.{owns}
use denote.Signature.{plain, types_at}
use denote.Opens.{hide}
use types.Run.{look, stop, fld, load, addr, size_lit, of_opd, bin, first, blocks, exec, returns, enter}
use types.ByLocal.{alloc_all, pass_all, free_all, look_at, get, through, sets, sets_last, env}
use denote.Exit.{yes}
use denote.Builtin.{usize, RefOf}
use denote.Memory.{hidden_shr}
use denote.Plain.{uint_vals, uint_Tells}
use denote.RawPtr.{RawPtr, in_a_block}
use denote.Ref.{shr_vals, shr_Tells}
use Rattle.core.proofs.mem.Param.{El, R, args}
use Rattle.std_alloc.proofs.VecSteps.Shapes.{after}
use Rattle.core.proofs.slots.Lent.{pointer_in, pointer_out}
use mathlib.Core.Path.{refl}
use Prim.Native.Nat.{ℕ, ◌+◌, ◌*◌}
use lib.ListN.{get_or}
use base.Logic.{never, id⊢}
use contract.Monad.{fact}
use contract.Running.{tables}
use types.Kit.{‵, raw, ◌⊛◌, at_ret, ◌$◌, ◌∵◌, !, qed, move, keep, use1, drop, split, join, rewrite, fsplit, fjoin, feq_i, flt_l, suffices, done}
use denote.Steps.{nothing}
use denote.Triple.Clauses.{Ended}
use denote.Triple.Walked.{says, Stays, stay_dropped, walk_of, ends_at, Goes-dropped}
use Rattle.std.proofs.raw_atomic.Walks.{proved}
use Rattle.std.specs.Prelude.{None, IsSome}
use Rattle.ck_room.specs.Memory.{place_lent, lent}
use Rattle.ck_room.proofs.Memory.{sz, Place, place_seen}
use Rattle.ck_room.proofs.Steps.{Pr, el_d, spaced, full, shown}
use Rattle.ck_room.specs.contracts.Places.get as F
use Rattle.ck_room.specs.contracts.Places.get.Key.{name as #self}
use Rattle.ck_room.proofs.Places.get.Statement.{statement}
use Rattle.ck_room.proofs.Places.get.Code as code

pub get_spec : {M : Type 1} → statement M
get_spec 𝓤 𝓛 𝓜 𝓡 wired X L =
    let E : El = record { row = X; laws = L } in let fn : Fn = inst_fn (args E) code.function in let En : Ended = F.ended X in let c = F.clauses X 𝓛 𝓜.mem 𝓡.returns in
    let hs : Stays En.signature.params En.kept = (stay_dropped (RefOf (0 ∷ []) tt (plain (λ _. Pr E)) (λ _. tt)) yes, (stay_dropped (plain (λ _. usize)) yes, tt)) in
    let W = walk_of 𝓛 En hs c in let 𝓣 = tables 𝓤 𝓛.H 𝓜 𝓡 𝓡.env in
    proved 𝓛 En hs c 𝓜 𝓡 (Goes-dropped 𝓛 2 (RefOf (0 ∷ []) tt (plain (λ _. Pr E)) (λ _. tt)) yes (λ κs x f. refl), (Goes-dropped 𝓛 2 (plain (λ _. usize)) yes (λ κs x f. refl), tt))
    (#self (args E)) fn (code.unfolded 𝓤 𝓛.H 𝓜 𝓡 wired (X, tt)) (λ κs. (shr_vals, (uint_vals w64, tt))) (λ κs. (shr_Tells (named 0) κs.0 (Pr E), (uint_Tells w64, tt))) (λ κs qs bounds a g are.
    let y : W.Ghost = ((κs, qs, bounds, a, (shr_vals a.0, (uint_vals w64 a.1.0, tt))), g) in let κ = κs.0 in
    let rb : ℕ = a.0.ref_ptr.0 in let ro : ℕ = a.0.ref_ptr.1 in let h : el_d E = a.0.now in let i : ℕ = a.1.0 in let s : ℕ = sz E in
    qed 𝓛 (((‵ (flft κ qs.0) ⊛ ‵ (flft κs.1.0 qs.1.0) ⊛ ‵ ftrue) ⊛ ‵ (owns (types_at En.signature.params κs) a y.0.4)) ∷ (raw (fact 𝓤 (κs.1.0 ⊑ X.lives)) ⊛ raw (fact 𝓤 (IsSome (get_or h.items i None)))) ∷ []) ∵
    move ! (1 ∷ []) $ split ! $ drop ! $ full E ! h i (λ x found ix. split ! $ split ! $ move ! (2 ∷ []) $ fsplit ! $ fsplit ! $ drop ! $
    use1 𝓛 (‵ (hidden_shr RawPtr κ h.ptr rb (ro + 0)) ⊛ ‵ (lent (R E) h.ptr h.items κ)) (shown E 𝓛 κ h rb ro) $
    split ! $ move ! (1 ∷ []) $ in_a_block ! h.ptr (λ p. lent (R E) p h.items κ) (id⊢ 𝓤 (never 𝓤)) (λ b o at_b. fsplit ! $ flt_l ! (λ fit. let small = spaced E h i ix fit in
    use1 𝓛 (‵ (place_lent (R E) b (i * s + o) (get_or h.items i None) κ)) (place_seen E 𝓛 b κ o h.items i ix) $
    rewrite ! 0 (λ (c : Place E). ‵ (place_lent (R E) b (i * s + o) c κ)) found refl $ hide ! $ keep ! (1 ∷ 3 ∷ 4 ∷ 0 ∷ []) $
    enter ! 𝓣.C 𝓣.Λ fn (vptr rb ro ∷ vint w64 i ∷ []) _ $ alloc_all ! (λ l. pass_all ! refl ((tt, tt), ((tt, record { fits = are.1.0.1 }), tt)) $
    let Ev = env fn.locals l in
    first ! $ blocks ! $ pointer_in ! tt h.ptr b o at_b rb (ro + 0) (λ q'.
    sets ! (of_opd ! (load ! (through ! refl (fld ! refl (stop !))) (look ! 0 refl))) refl (tt, tt) $
    pointer_out ! tt h.ptr b o at_b rb (ro + 0) $
    sets ! (bin ! (get ! refl) (size_lit ! (record { fits = small.0 })) (record { fits = small.1 })) refl (tt, record { fits = small.1 }) $
    sets ! (bin ! (get ! refl) (get ! refl) tt) refl (tt, tt) $ sets_last ! (addr ! (through ! refl (stop !))) refl (tt, tt) $
    exec ! 𝓣.C 𝓣.Λ Ev (after 1 fn.body) (at_ret Ev (W.post y)) $ sets ! (of_opd ! (get ! refl)) refl (tt, tt) $ returns ! (look_at ! 0 refl) $ free_all ! refl $
    suffices ! _ (ends_at 𝓛 En hs c y (vptr b (i * s + o)) (record { ref_ptr = (b, i * s + o); now = x }) (tt, (tt, tt)) (tt, (tt, tt))) $ says ! found $
    join ! $ move ! (1 ∷ []) $ feq_i ! (List Val) (vptr b (i * s + o) ∷ []) (vptr b (i * s + o) ∷ []) refl $ fjoin ! $
    nothing ! $ nothing ! $ fjoin ! $ nothing ! $ fjoin ! $ keep ! (2 ∷ 0 ∷ 1 ∷ []) $ done !))))))
