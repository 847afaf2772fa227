-- `get_mut` lends the value of a place, and the places follow it.
use mathlib.Core.List.{List, [], ◌∷◌}
use base.Fraction.{full_share}
use mir.Syntax.{Fn, w64, named}
use mir.Val.{Val, vint, vptr}
use base.Fml.{GName, Fml, ftrue, fsep, flft}
use mir.MapTy.{inst_fn}
use contract.BorrowLft.{◌⊑◌}
use denote.RattleType.{owns}
use denote.Signature.{plain, types_at}
use types.Part.{whole, sub, look_in}
use types.Run.{stop, fld, load, addr, size_lit, of_opd, bin, first, blocks, exec, returns, enter}
use types.ByLocal.{alloc_all, pass_all, free_all, look_at, get, through, sets, sets_last, env}
use denote.Exit.{yes, no}
use denote.Builtin.{usize, RefMutOf}
use denote.Memory.{cell_at, part_of, mem}
use denote.Plain.{uint_vals, uint_Tells}
use denote.RawPtr.{block_ptr}
use denote.Ref.{MutRef, mut_vals, mut_Tells}
use denote.Follow.{follows, lends_Part}
use Rattle.ck_room.specs.Lends.{with_value}
use Rattle.core.proofs.mem.Param.{El, R, args, el_x}
use Rattle.std_alloc.proofs.RcSteps.{word}
use Rattle.std_alloc.proofs.VecSteps.Shapes.{after}
use mathlib.Core.Path.{◌≡◌, refl, sym, subst}
use Prim.Native.Nat.{ℕ, ◌+◌, ◌*◌, ◌<◌, ◌^◌}
use lib.ListN.{length, get_or, length-set}
use seplogic.Ra.Ura.{Ura}
use base.Logic.{ent, sep}
use types.Logic.{Logic, sem}
use contract.Monad.{fact}
use contract.Running.{tables}
use types.Kit.{‵, raw, ◌⊛◌, some, later, at_ret, ◌$◌, ◌∵◌, !, qed, move, keep, use1, use2, drop, split, split3, join, pick, fsplit, fsplit3, fjoin, fpack, suffices, frame, await, group, done}
use denote.Steps.{nothing}
use denote.Triple.Clauses.{Ended}
use denote.Triple.Walked.{says, Stays, stay_dropped, walk_of, ends_at, Goes-dropped, Goes-spent_ref}
use Rattle.std.proofs.raw_atomic.Walks.{proved}
use Rattle.std.specs.Prelude.{None, Some, IsSome}
use Rattle.ck_room.specs.Memory.{place}
use Rattle.ck_room.proofs.Memory.{sz, Besides, place_in}
use Rattle.ck_room.proofs.Steps.{Pr, el_d, values, spaced, full, opened_at, made}
use Rattle.ck_room.specs.contracts.Places.get_mut as F
use Rattle.ck_room.specs.contracts.Places.get_mut.Key.{name as #self}
use Rattle.ck_room.proofs.Places.get_mut.Statement.{statement}
use Rattle.ck_room.proofs.Places.get_mut.Code as code

module _ (E : El) {M : Type 1} {𝓤 : Ura M} (𝓛 : Logic 𝓤) (rb ro b o : ℕ) (h : el_d E) (i : ℕ) where
  -- all of the places but the i-th
  abbrev Rest : Fml
  Rest = fsep (Besides E 𝓛 b o h.items i) (cell_at full_share (Pr E).mir (word (block_ptr b o) ∷ []) rb ro)

  back : h.ptr ≡ block_ptr b o → length h.items * sz E < 2 ^ 63 → i < length h.items → (w : el_x E)
      → ent 𝓤 (sep 𝓤 (sem 𝓛 ((mem (R E)).own_at w b (i * sz E + o))) (sem 𝓛 Rest)) (sem 𝓛 ((mem (Pr E)).own_at (with_value h i w) rb ro))
  unfolding part_of
  back at_b fit ix w =
      qed 𝓛 (‵ (place (R E) b (i * sz E + o) (Some w)) ∷ ‵ Rest ∷ []) ∵ move ! (1 ∷ []) $ fsplit ! $ move ! (2 ∷ 0 ∷ []) $
      use2 𝓛 (‵ (values E (with_value h i w) b o)) (place_in E 𝓛 b o h.items i ix (Some w)) $ made E ! (with_value h i w) b o at_b (subst (λ k. k * sz E < 2 ^ 63) (sym (length-set h.items i (Some w))) fit) $ move ! (1 ∷ 0 ∷ []) $ fjoin ! $
      fpack ! (List Val) (λ us. fsep (cell_at full_share (Pr E).mir us rb ro) ((Pr E).own_val (with_value h i w) us)) (word (block_ptr b o) ∷ []) $ done !

pub get_mut_spec : {M : Type 1} → statement M
get_mut_spec 𝓤 𝓛 𝓜 𝓡 wired X L =
    let E : El = record { row = X; laws = L } in let fn : Fn = inst_fn (args E) code.function in let En : Ended = F.ended X in let c = F.clauses X 𝓛 𝓜.mem 𝓡.returns in
    let hs : Stays En.signature.params En.kept = (stay_dropped (RefMutOf (0 ∷ []) tt (plain (λ _. Pr E)) (λ _. tt)) no, (stay_dropped (plain (λ _. usize)) yes, tt)) in
    let W = walk_of 𝓛 En hs c in let 𝓣 = tables 𝓤 𝓛.H 𝓜 𝓡 𝓡.env in
    proved 𝓛 En hs c 𝓜 𝓡 (Goes-spent_ref 𝓛 2 (0 ∷ []) tt (plain (λ _. Pr E)), (Goes-dropped 𝓛 2 (plain (λ _. usize)) yes (λ κs x f. refl), tt)) (#self (args E)) fn (code.unfolded 𝓤 𝓛.H 𝓜 𝓡 wired (X, tt))
    (λ κs. (mut_vals, (uint_vals w64, tt))) (λ κs. (mut_Tells (named 0) κs.0 (Pr E), (uint_Tells w64, tt))) (λ κs qs bounds a g are.
    let y : W.Ghost = ((κs, qs, bounds, a, (mut_vals a.0, (uint_vals w64 a.1.0, tt))), g) in let κ = κs.0 in let q = qs.0 in let γ : GName = a.0.ghost_name in
    let rb : ℕ = a.0.ref_ptr.0 in let ro : ℕ = a.0.ref_ptr.1 in let h : el_d E = a.0.now in let i : ℕ = a.1.0 in let s : ℕ = sz E in
    qed 𝓛 (((‵ (flft κ q) ⊛ ‵ (flft κs.1.0 qs.1.0) ⊛ ‵ ftrue) ⊛ ‵ (owns (types_at En.signature.params κs) a y.0.4)) ∷ (raw (fact 𝓤 (κs.1.0 ⊑ X.lives)) ⊛ raw (fact 𝓤 (IsSome (get_or h.items i None)))) ∷ []) ∵
    move ! (1 ∷ []) $ split ! $ drop ! $ full E ! h i (λ x found ix. split ! $ split ! $ move ! (2 ∷ []) $ fsplit ! $ fsplit3 ! $ keep ! (1 ∷ 2 ∷ 4 ∷ 5 ∷ []) $
    enter ! 𝓣.C 𝓣.Λ fn (vptr rb ro ∷ vint w64 i ∷ []) _ $ alloc_all ! (λ l. pass_all ! refl ((tt, tt), ((tt, record { fits = are.1.0.1 }), tt)) $
    let Ev = env fn.locals l in
    opened_at E ! tt h rb ro i (Some x) ix found (λ b o at_b fit. let small = spaced E h i ix fit in
    first ! $ blocks ! $
    sets ! (of_opd ! (load ! (through ! refl (fld ! refl (stop !))) (look_in ! 2 (sub ! 0 refl (whole !))))) refl (tt, tt) $
    sets ! (bin ! (get ! refl) (size_lit ! (record { fits = small.0 })) (record { fits = small.1 })) refl (tt, record { fits = small.1 }) $
    sets ! (bin ! (get ! refl) (get ! refl) tt) refl (tt, tt) $ sets_last ! (addr ! (through ! refl (stop !))) refl (tt, tt) $
    exec ! 𝓣.C 𝓣.Λ Ev (after 1 fn.body) (at_ret Ev (W.post y)) $ sets ! (of_opd ! (get ! refl)) refl (tt, tt) $
    move ! (1 ∷ 2 ∷ []) $ fjoin ! $ move ! (2 ∷ 3 ∷ 4 ∷ 1 ∷ 0 ∷ []) $ group ! 5 $
    use1 𝓛 (later (some (λ (γ' : GName). ‵ ((MutRef (named 0) κ (R E)).own_val (record { ref_ptr = (b, i * s + o); ghost_name = γ'; now = x }) (vptr b (i * s + o) ∷ [])) ⊛ ‵ (flft κ q) ⊛ ‵ (follows (Pr E) (R E) γ γ' (with_value h i)))))
    (lends_Part 𝓛 (Pr E) (R E) (with_value h i) (named 0) κ q rb ro b (i * s + o) γ (sem 𝓛 (Rest E 𝓛 rb ro b o h i)) (back E 𝓛 rb ro b o h i at_b fit ix) ((Pr E).coded.code h) ((Pr E).coded.code h) x) $
    await ! tt $ pick ! (λ γ'. split3 ! $ returns ! (look_at ! 0 refl) $ free_all ! refl $
    suffices ! _ (ends_at 𝓛 En hs c y (vptr b (i * s + o)) (record { ref_ptr = (b, i * s + o); ghost_name = γ'; now = x }) (tt, (tt, tt)) (tt, (tt, tt))) $
    nothing ! $ nothing ! $ fjoin ! $ nothing ! $ fjoin ! $ join ! $ move ! (1 ∷ 3 ∷ []) $ join ! $ join ! $ frame ! $ says ! found $ keep ! (0 ∷ []) $ done !)))))
