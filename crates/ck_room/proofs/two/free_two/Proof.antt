-- `free_two` makes room of the empty places of both kinds, and of that the block, which it hands
-- back with the lease.
use mathlib.Core.Path.{◌≡◌, refl, sym, subst, ◌∙◌}
use Prim.Native.Nat.{ℕ}
use mathlib.Core.List.{List, [], ◌∷◌, ◌++◌}
use lib.Dec.{T}
use lib.ListN.{length}
use mir.Syntax.{Ty, Fn, w64, ty_unit, ty_array}
use mir.Raw.{raw as bare_of}
use mir.Val.{Val, vunit, vint, vptr, has_ty, WT}
use base.Logic.{id⊢, SProp, ent, apply∗}
use base.Fml.{ftrue, froom, flft, Incl-trans}
use prog.Memory.{align, capped}
use prog.Capped.{capped_fits}
use mir.MapTy.{inst_fn}
use prog.Wp.{Env, WpFn}
use contract.BorrowLft.{◌⊑◌}
use denote.RattleType.{RattleType, owns}
use denote.Signature.{plain, types_at}
use denote.Steps.{heard, nothing}
use types.Kit.{‵, raw, ◌⊛◌, later, given, at_ret, ◌$◌, ◌∵◌, !, qed, move, keep, drop, use1, use2, use3, learn, split, join, rewrite, fsplit, fsplit3, fjoin, fjoin3, feq_i, feq_l, flt_l, suffices, await, done}
use types.Part.{whole, sub}
use types.Run.{stop, fld, align_word, unit_lit, no_more, and_then, of_opd, first, blocks, exec, returns, enter}
use types.ByLocal.{alloc_all, pass_all, free_all, look_at, get, get_in, sets, lands_last, env}
use denote.Exit.{yes, no}
use denote.Builtin.{usize, RefOf}
use denote.RawPtr.{Ptr, block_ptr}
use denote.Triple.Call.{calls_at_last}
use Rattle.core.proofs.mem.Param.{El, R, elτ}
use Rattle.core.proofs.alloc.Calls.{Al, token, Gives, at_gives, Gives-goes, Gives-Gives}
use Rattle.std_alloc.proofs.RcSteps.{word}
use Rattle.std_alloc.proofs.VecSteps.Shapes.{after}
use Rattle.ck_room.specs.Memory.{row, pair_ty, pair_bytes, IsBlockSize, both_rooms, leased_two}
use Rattle.ck_room.specs.Room.{IsLeaseOfTwo, AllNone}
use Rattle.ck_room.proofs.Memory.{Place, all_none, to_room}
use Rattle.ck_room.proofs.Pairs.{pair_size, pair_align}
use Rattle.ck_room.proofs.Steps.{Pr, el_d, had, mark}
use Rattle.ck_room.proofs.TwoSteps.{args, RS, Hr, RZ, Lr, lease_had}
use types.Logic.{sem}
use contract.Monad.{fact}
use contract.Running.{tables}
use denote.Triple.Clauses.{Ended}
use denote.Triple.Table.{framed}
use denote.Triple.Walked.{Stays, stay_dropped, walk_of, ends_at, Goes-dropped}
use Rattle.std.proofs.raw_atomic.Walks.{proved_at}
use Rattle.ck_room.specs.contracts.two.free_two as F
use Rattle.ck_room.specs.contracts.two.free_two.Key.{name as #self}
use Rattle.ck_room.proofs.two.free_two.Statement.{statement}
use Rattle.ck_room.proofs.two.free_two.Code as code

pub free_two_spec : {M : Type 1} → statement M
free_two_spec 𝓤 𝓛 𝓜 𝓡 wired X W Y LX LW LY g d dd met md =
    let E : El = record { row = X; laws = LX } in let S : El = record { row = W; laws = LW } in let Z : Al = record { row = Y; laws = LY; g = g; d = d; drops = dd } in
    let fn₀ : Fn = inst_fn (args E S Z) code.function in let En : Ended = F.ended X W Y g d dd in let c = F.clauses X W Y g d dd 𝓛 𝓜.mem 𝓡.returns in let H = 𝓛.H in let 𝓣 = tables 𝓤 H 𝓜 𝓡 𝓡.env in
    let hs : Stays En.signature.params En.kept = (stay_dropped (RefOf (0 ∷ []) tt (plain (λ _. RZ E S Z)) (λ _. tt)) yes, (stay_dropped (plain (λ _. Pr E)) no, (stay_dropped (plain (λ _. Hr E S Z)) no, (stay_dropped (plain (λ _. Lr E S Z)) no, (stay_dropped (plain (λ _. usize)) yes, tt))))) in
    proved_at 𝓛 En hs c 𝓜 𝓡 (Goes-dropped 𝓛 4 (RefOf (0 ∷ []) tt (plain (λ _. RZ E S Z)) (λ _. tt)) yes (λ κs x f. refl), (Goes-dropped 𝓛 4 (plain (λ _. Pr E)) no (λ κs x f. refl), (Goes-dropped 𝓛 4 (plain (λ _. Hr E S Z)) no (λ κs x f. refl), (Goes-dropped 𝓛 4 (plain (λ _. Lr E S Z)) no (λ κs x f. refl), (Goes-dropped 𝓛 4 (plain (λ _. usize)) yes (λ κs x f. refl), tt)))))
    (#self (args E S Z)) fn₀ (code.unfolded 𝓤 H 𝓜 𝓡 wired (X, (W, (Y, tt))) d dd) (λ z are.
    let κs = z.0.0 in let qs = z.0.1 in let bounds = z.0.2 in let xs = z.0.3 in
    let κ = κs.0 in let κ₁ = κs.1.0 in let κ₂ = κs.1.1.0 in let κ₃ = κs.1.1.1.0 in
    let q = qs.0 in let q₁ = qs.1.0 in let q₂ = qs.1.1.0 in let q₃ = qs.1.1.1.0 in
    let hp : ℕ × ℕ = xs.0.ref_ptr in let a : Z.row.Denot = xs.0.now in let h : el_d E = xs.1.0 in let k : el_d S = xs.1.1.0 in
    let d : (Lr E S Z).Denot = xs.1.1.1.0 in let w : ℕ = xs.1.1.1.1.0 in let vss = z.0.4 in
    let Post : Val → SProp 𝓤 = (walk_of 𝓛 En hs c).post z in
    let n : ℕ = length h.items in let m : ℕ = length k.items in let RH : RattleType = RS E S Z in
    let Leased : Type 0 = IsLeaseOfTwo d h k a in let Empty : Type 0 = AllNone h.items in let Bare : Type 0 = AllNone k.items in let Sized : Type 0 = IsBlockSize (R E) RH n m w in
    let al : ℕ = capped (align (elτ E)) in let τ : Ty = pair_ty (R E) RH n m in
    qed 𝓛 (((‵ (flft κ q) ⊛ ‵ (flft κ₁ q₁) ⊛ ‵ (flft κ₂ q₂) ⊛ ‵ (flft κ₃ q₃) ⊛ ‵ ftrue) ⊛ ‵ (owns (types_at En.signature.params κs) xs vss))
    ∷ (raw (fact 𝓤 (κ₁ ⊑ X.lives)) ⊛ raw (fact 𝓤 (κ₂ ⊑ W.lives)) ⊛ raw (fact 𝓤 (κ₃ ⊑ Y.lives)) ⊛ raw (fact 𝓤 Leased) ⊛ raw (fact 𝓤 Empty) ⊛ raw (fact 𝓤 Bare) ⊛ raw (fact 𝓤 Sized)) ∷ []) ∵
    move ! (1 ∷ []) $ split ! $ drop ! $ split ! $ drop ! $ split ! $ heard ! (κ₃ ⊑ Y.lives) (λ inZ. split ! $ heard ! Leased (λ ok. split ! $ heard ! Empty (λ empty. split ! $ heard ! Bare (λ bare. heard ! Sized (λ sized.
    split ! $ split ! $ move ! (2 ∷ []) $ fsplit3 ! $ fsplit ! $ feq_l ! (λ e₀. move ! (1 ∷ []) $ had E ! h vss.1.0 (λ b o at_b e₁ fit.
    rewrite ! 0 (λ (cs : List (Place E)). ‵ (row (R E) b o cs)) (all_none h.items empty) refl $
    use1 𝓛 (‵ (froom (ty_array (elτ E) n) b o)) (to_room E 𝓛 b n o) $ use1 𝓛 (‵ (froom (bare_of (ty_array (elτ E) n)) b o)) (𝓛.laws.room-raw (ty_array (elτ E) n) b o) $
    move ! (2 ∷ []) $ fsplit ! $ had S ! k vss.1.1.0 (λ b' o' at_b' e₂ fit'.
    rewrite ! 0 (λ (cs : List (Place S)). ‵ (row (R S) b' o' cs)) (all_none k.items bare) refl $
    use1 𝓛 (‵ (froom (ty_array (elτ S) m) b' o')) (to_room S 𝓛 b' m o') $ use1 𝓛 (‵ (froom (bare_of (ty_array (elτ S) m)) b' o')) (𝓛.laws.room-raw (ty_array (elτ S) m) b' o') $
    move ! (1 ∷ []) $ fsplit ! $ lease_had E S Z ! d vss.1.1.1.0 (λ e₃.
    rewrite ! 0 (λ (c : Z.row.Denot × (Ptr × ℕ) × (Ptr × ℕ)). ‵ (leased_two (token Z c.0) (R E) RH c.1 c.2))
    (λ i. (ok.allocator i, (ok.block ∙ (λ j. (at_b j, h.counted j))) i, (ok.behind ∙ (λ j. (at_b' j, k.counted j))) i)) refl $
    fsplit3 ! $ fsplit ! $ feq_l ! (λ one. flt_l ! (λ all.
    -- [the right to free it; the way; what is left of the arguments; the second room; the first
    -- room; the handle; its token; the other tokens]
    let same : w ≡ pair_bytes (R E) RH n m = sized all in
    move ! (2 ∷ []) $ fsplit ! $ fsplit ! $ feq_l ! (λ e₄. flt_l ! (λ fw. drop ! $ move ! (3 ∷ 2 ∷ []) $ fjoin ! $ move ! (0 ∷ 2 ∷ []) $
    use2 𝓛 (‵ (froom τ b o)) (apply∗ 𝓤 (sem 𝓛 (both_rooms (R E) RH n m (block_ptr b o) (block_ptr b' o'))) (H.room τ b o)) $
    -- [the room; the right to free it; the handle; its token; the other tokens]
    let us : List Val = vptr hp.0 hp.1 ∷ word (block_ptr b o) ∷ word (block_ptr b' o') ∷ mark ∷ vint w64 w ∷ [] in
    let Run : List Val → SProp 𝓤 = λ ws. WpFn 𝓤 H 𝓣.C 𝓣.Λ fn₀ ws Post in
    suffices ! (Run us) (subst (λ (ws : List Val). ent 𝓤 (Run us) (Run ws)) (sym (λ i. e₀ i ++ (e₁ i ++ (e₂ i ++ (e₃ i ++ (e₄ i ++ [])))))) (id⊢ 𝓤 (Run us))) $
    enter ! 𝓣.C 𝓣.Λ fn₀ us Post $ alloc_all ! (λ l. pass_all ! refl ((tt, tt), ((tt, (tt, tt)), ((tt, (tt, tt)), ((tt, (tt, tt)), ((tt, record { fits = fw }), tt))))) $
    let Ev : Env 𝓤 H = env fn₀.locals l in
    let u : (Gives Z 𝓛 𝓜.mem 𝓡.returns).Ghost = at_gives Z 𝓛 𝓜.mem 𝓡.returns κ q hp a b o w al τ in
    sets ! (of_opd ! (get_in ! (fld ! refl (stop !)) (sub ! 0 refl (whole !)))) refl (tt, tt) $
    first ! $ blocks ! $ sets ! (of_opd ! (get ! refl)) refl (tt, tt) $
    move ! (2 ∷ 3 ∷ []) $ join ! $ move ! (1 ∷ 2 ∷ 0 ∷ []) $ use3 𝓛 (raw ((Gives Z 𝓛 𝓜.mem 𝓡.returns).pre u))
    (Gives-goes Z 𝓛 𝓜.mem 𝓡.returns κ q hp a (Incl-trans bounds.0 inZ) b o w al τ (pair_size (R E) RH n m one all ∙ sym same) (pair_align (R E) RH n m one) fw (capped_fits (align (elτ E)))) $
    calls_at_last ! (framed 𝓤 H 𝓜 𝓣) (Gives Z 𝓛 𝓜.mem 𝓡.returns) (met.deallocate dd) u (and_then ! (get ! refl) (and_then ! (get ! refl) (and_then ! (get ! refl) (and_then ! (align_word !) (no_more !))))) (λ v.
    use1 𝓛 (later (given (v ≡ vunit) (‵ (flft κ q)))) (Gives-Gives Z 𝓛 𝓜.mem 𝓡.returns κ q hp a b o w al τ v) $ await ! tt $ learn ! (λ e.
    lands_last ! refl (subst (λ (u : Val). T (has_ty ty_unit u) × WT u) (sym e) (tt, tt)) $ exec ! 𝓣.C 𝓣.Λ Ev (after 2 fn₀.body) (at_ret Ev Post) $
    sets ! (of_opd ! (unit_lit !)) refl (tt, tt) $ returns ! (look_at ! 0 refl) $ free_all ! refl $
    suffices ! _ (ends_at 𝓛 En hs c z vunit tt (tt, (tt, (tt, (tt, (tt, tt))))) (tt, (tt, (tt, (tt, (tt, tt)))))) $
    join ! $ feq_i ! (List Val) (vunit ∷ []) (vunit ∷ []) refl $ nothing ! $ nothing ! $ fjoin ! $ nothing ! $ fjoin ! $ nothing ! $ fjoin ! $ nothing ! $ nothing ! $ fjoin3 ! $ join ! $ move ! (1 ∷ 0 ∷ []) $ join ! $
    nothing ! $ keep ! (1 ∷ 0 ∷ []) $ done !)))))))))))))))))
