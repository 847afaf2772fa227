-- `allocate_two` makes empty places of both kinds of the room of one block, and a lease of the right
-- to free it.
use mathlib.Core.Path.{◌≡◌, refl, sym, subst, ap, ◌∙◌}
use mathlib.Core.Bool.{true, false}
use Prim.Native.Nat.{ℕ, ◌+◌, ◌*◌, ◌<◌, ◌^◌}
use native.Mathlib.Omega.{arith}
use mathlib.Core.List.{List, [], ◌∷◌}
use lib.Dec.{lit<}
use lib.ListN.{replicate, length-replicate}
use mir.Syntax.{Ty, Fn, Body, w64, named, ty_array}
use mir.Val.{Val, vint, vptr, vstruct, vcons, vnil, WT}
use base.Logic.{sep, SProp, ent}
use base.Fml.{ftrue, froom, flft, Incl-trans}
use prog.Memory.{align, capped}
use prog.Capped.{capped_fits}
use prog.Wp.{Wp, after_seq, at_return, Env}
use mir.MapTy.{inst_fn}
use contract.BorrowLft.{◌⊑◌}
use denote.RattleType.{RattleType, Valss, owns}
use denote.Signature.{plain, types_at}
use denote.Steps.{heard, nothing, owned}
use types.Kit.{Post as After, any_q, ‵, raw, ◌⊛◌, later, at_ret, ◌$◌, ◌∵◌, !, qed, by, move, keep, drop, use0, use1, use2, split, join, fsplit, fjoin, fjoin3, fpack, feq_i, flt_i, suffices, await, done}
use types.Part.{whole, agg}
use types.Match.{live, vrt, in_variant}
use types.Run.{stop, fld, lit, size_word, align_word, no_more, and_then, of_opd, bin, first, blocks, switches_on, exec, returns, enter}
use types.ByLocal.{alloc_all, pass_all, free_all, look_at, get, get_in, get_tag, is, sets, sets_last, lands_as, env}
use denote.Exit.{yes}
use denote.Laws.{Is}
use denote.Builtin.{usize, RefOf}
use denote.Plain.{uint_vals, uint_Tells}
use denote.RawPtr.{block_ptr}
use denote.Ref.{shr_vals, shr_Tells}
use denote.Struct.Struct.{Struct, Struct-Makes, within}
use denote.Struct.Declared as Declared
use denote.Struct.Tuple.{Tuple, tuple_type}
use denote.Triple.Call.{calls_at}
use denote.Triple.Entry.{alive}
use Rattle.std.specs.Prelude.{None, IfOk, Ok, Err}
use Rattle.std.specs.Vec.Ownership.{FitsInBlock}
use Rattle.core.specs.contracts.result.Result as RES
use Rattle.core.specs.contracts.alloc.AllocError as AE
use Rattle.core.proofs.mem.Param.{El, R, elτ}
use Rattle.core.proofs.alloc.Calls.{Al, Answer-typed, Takes, at_takes, Answered, Takes-goes, Takes-gives, answers}
use Rattle.core.proofs.slots.Leases.{uncapped}
use Rattle.std_alloc.proofs.RcSteps.{word}
use Rattle.std_alloc.proofs.ResultValues.{ok_of, err_of}
use Rattle.std_alloc.proofs.VecSteps.Shapes.{after, head, arm_body}
use Rattle.core.specs.Align.{type_align}
use Rattle.ck_room.specs.Memory.{pair_ty, pair_bytes, IsBlockSize}
use Rattle.ck_room.specs.Room.{IsLeaseOfTwo}
use Rattle.ck_room.proofs.Memory.{sz, of_room}
use Rattle.ck_room.proofs.Pairs.{pair_size, pair_align, Rooms, Way, pair_cut}
use Rattle.ck_room.proofs.Steps.{Pr, el_d, values, made, mark}
use Rattle.ck_room.proofs.TwoSteps.{args, RS, Hr, RZ, Lr, Mark, marked}
use types.Logic.{sem}
use contract.Monad.{fact}
use contract.Running.{tables}
use denote.Triple.Clauses.{Ended}
use denote.Triple.Table.{framed}
use denote.Triple.Walked.{says, Stays, stay_dropped, walk_of, ends_at, Goes-dropped}
use Rattle.std.proofs.raw_atomic.Walks.{proved}
use Rattle.ck_room.specs.contracts.two.allocate_two as F
use Rattle.ck_room.specs.contracts.two.allocate_two.Key.{name as #self}
use Rattle.ck_room.proofs.two.allocate_two.Statement.{statement}
use Rattle.ck_room.proofs.two.allocate_two.Code as code

pub allocate_two_spec : {M : Type 1} → statement M
allocate_two_spec 𝓤 𝓛 𝓜 𝓡 wired X W Y LX LW LY g d dd met md =
    let E : El = record { row = X; laws = LX } in let S : El = record { row = W; laws = LW } in let Z : Al = record { row = Y; laws = LY; g = g; d = d; drops = dd } in
    let fn₀ : Fn = inst_fn (args E S Z) code.function in let En : Ended = F.ended X W Y g d dd in let c = F.clauses X W Y g d dd 𝓛 𝓜.mem 𝓡.returns in
    let hs : Stays En.signature.params En.kept = (stay_dropped (RefOf (0 ∷ []) tt (plain (λ _. RZ E S Z)) (λ _. tt)) yes, (stay_dropped (plain (λ _. usize)) yes, (stay_dropped (plain (λ _. usize)) yes, (stay_dropped (plain (λ _. usize)) yes, tt)))) in
    let H = 𝓛.H in let 𝓣 = tables 𝓤 H 𝓜 𝓡 𝓡.env in let word_goes = Goes-dropped 𝓛 4 (plain (λ _. usize)) yes (λ κs x f. refl) in
    proved 𝓛 En hs c 𝓜 𝓡 (Goes-dropped 𝓛 4 (RefOf (0 ∷ []) tt (plain (λ _. RZ E S Z)) (λ _. tt)) yes (λ κs x f. refl), (word_goes, (word_goes, (word_goes, tt))))
    (#self (args E S Z)) fn₀ (code.unfolded 𝓤 H 𝓜 𝓡 wired (X, (W, (Y, tt))) d dd)
    (λ κs. (shr_vals, (uint_vals w64, (uint_vals w64, (uint_vals w64, tt))))) (λ κs. (shr_Tells (named 0) κs.0 (RZ E S Z), (uint_Tells w64, (uint_Tells w64, (uint_Tells w64, tt))))) (λ κs qs bounds xs gh are.
    let y : (walk_of 𝓛 En hs c).Ghost = ((κs, qs, bounds, xs, (shr_vals xs.0, (uint_vals w64 xs.1.0, (uint_vals w64 xs.1.1.0, (uint_vals w64 xs.1.1.1.0, tt))))), gh) in let Post : Val → SProp 𝓤 = (walk_of 𝓛 En hs c).post y in
    let Three : RattleType = Tuple (Pr E ∷ Hr E S Z ∷ Lr E S Z ∷ []) in let Out : RattleType = RES.the_row Three AE.the_row in
    let exits : (r : Out.Denot) (v : Val) → IfOk r (λ p. (p.0.items ≡ replicate xs.1.0 None) × (p.1.items ≡ replicate xs.1.1.0 None) × IsLeaseOfTwo p.2 p.0 p.1 xs.0.now) → ent 𝓤 (sep 𝓤 (sem 𝓛 (Out.own_val r (v ∷ []))) (alive 𝓛 En.signature κs qs)) (Post v) = λ r v said.
    qed 𝓛 (‵ (Out.own_val r (v ∷ [])) ∷ raw (alive 𝓛 En.signature κs qs) ∷ []) ∵ suffices ! _ (ends_at 𝓛 En hs c y v r (tt, (tt, (tt, (tt, tt)))) (tt, (tt, (tt, (tt, tt))))) $ says ! said $
    nothing ! $ nothing ! $ fjoin ! $ nothing ! $ fjoin ! $ nothing ! $ nothing ! $ fjoin3 ! $ move ! (2 ∷ 0 ∷ 1 ∷ []) $ done ! in
    let κ = κs.0 in let κ₁ = κs.1.0 in let κ₂ = κs.1.1.0 in let κ₃ = κs.1.1.1.0 in
    let q = qs.0 in let q₁ = qs.1.0 in let q₂ = qs.1.1.0 in let q₃ = qs.1.1.1.0 in
    let hp : ℕ × ℕ = xs.0.ref_ptr in let a : Z.row.Denot = xs.0.now in let n : ℕ = xs.1.0 in let m : ℕ = xs.1.1.0 in let w : ℕ = xs.1.1.1.0 in
    let s : ℕ = sz E in let al : ℕ = capped (align (elτ E)) in let RH : RattleType = RS E S Z in
    let First : Type 0 = FitsInBlock (R E) n in let Second : Type 0 = FitsInBlock RH m in let Flat : Type 0 = type_align RH ≡ 1 in
    let Fit : Type 0 = pair_bytes (R E) RH n m < 2 ^ 64 in let Sized : Type 0 = IsBlockSize (R E) RH n m w in
    qed 𝓛 (((‵ (flft κ q) ⊛ ‵ (flft κ₁ q₁) ⊛ ‵ (flft κ₂ q₂) ⊛ ‵ (flft κ₃ q₃) ⊛ ‵ ftrue) ⊛ ‵ (owns (types_at En.signature.params κs) xs y.0.4))
    ∷ (raw (fact 𝓤 (κ₁ ⊑ X.lives)) ⊛ raw (fact 𝓤 (κ₂ ⊑ W.lives)) ⊛ raw (fact 𝓤 (κ₃ ⊑ Y.lives))
    ⊛ raw (fact 𝓤 First) ⊛ raw (fact 𝓤 Second) ⊛ raw (fact 𝓤 Flat) ⊛ raw (fact 𝓤 Fit) ⊛ raw (fact 𝓤 Sized)) ∷ []) ∵
    move ! (1 ∷ []) $ split ! $ drop ! $ split ! $ drop ! $ split ! $ heard ! (κ₃ ⊑ Y.lives) (λ inZ.
    split ! $ heard ! First (λ asks. split ! $ heard ! Second (λ asks'. split ! $ heard ! Flat (λ one. split ! $ heard ! Fit (λ fit. heard ! Sized (λ sized.
    let small : n * s < 2 ^ 63 = asks.0 in let small' : m * sz S < 2 ^ 63 = asks'.0 in
    let few : n < 2 ^ 63 = asks.1 in let few' : m < 2 ^ 63 = asks'.1 in
    let fn : n < 2 ^ 64 = omega arith in let fn' : m < 2 ^ 64 = omega arith in let fm : n * s < 2 ^ 64 = omega arith in
    let same : w ≡ pair_bytes (R E) RH n m = sized fit in let fw : w < 2 ^ 64 = subst (λ (k : ℕ). k < 2 ^ 64) (sym same) fit in
    let τ : Ty = pair_ty (R E) RH n m in
    split ! $ split ! $ move ! (2 ∷ []) $ fsplit ! $ fsplit ! $ keep ! (1 ∷ 3 ∷ 4 ∷ []) $
    enter ! 𝓣.C 𝓣.Λ fn₀ (vptr hp.0 hp.1 ∷ vint w64 n ∷ vint w64 m ∷ vint w64 w ∷ []) _ $
    alloc_all ! (λ l. pass_all ! refl ((tt, tt), ((tt, record { fits = fn }), ((tt, record { fits = fn' }), ((tt, record { fits = fw }), tt)))) $
    let Ev : Env 𝓤 H = env fn₀.locals l in
    let both : Body = head (after 3 fn₀.body) in
    let Then : After 𝓤 H = any_q (after_seq 𝓤 H (Wp 𝓤 H 𝓣.C 𝓣.Λ Ev (after 4 fn₀.body) (at_return 𝓤 H Ev Post)) (at_return 𝓤 H Ev Post)) in
    let u : (Takes Z 𝓛 𝓜.mem 𝓡.returns).Ghost = at_takes Z 𝓛 𝓜.mem 𝓡.returns κ q hp a w al τ in
    sets ! (of_opd ! (get ! refl)) refl (tt, tt) $ sets ! (of_opd ! (get ! refl)) refl (tt, record { fits = fw }) $
    use2 𝓛 (raw ((Takes Z 𝓛 𝓜.mem 𝓡.returns).pre u))
    (Takes-goes Z 𝓛 𝓜.mem 𝓡.returns κ q hp a (Incl-trans bounds.0 inZ) w al τ (pair_size (R E) RH n m one fit ∙ sym same) (pair_align (R E) RH n m one) fw (capped_fits (align (elτ E)))) $
    calls_at ! (framed 𝓤 H 𝓜 𝓣) (Takes Z 𝓛 𝓜.mem 𝓡.returns) (met.allocate dd) u (and_then ! (get ! refl) (and_then ! (get ! refl) (and_then ! (align_word !) (no_more !)))) (λ v.
    use1 𝓛 (later (raw (Answered Z 𝓛 𝓜.mem 𝓡.returns a τ v) ⊛ ‵ (flft κ q))) (Takes-gives Z 𝓛 𝓜.mem 𝓡.returns κ q hp a w al τ v) $ await ! tt $ split ! $
    move ! (1 ∷ 2 ∷ []) $ join ! $ move ! (1 ∷ []) $ answers Z ! 𝓜.mem 𝓡.returns a τ v
    (λ b o e.
    let at : ℕ = n * s + o in let p = block_ptr b o in let p' = block_ptr b at in
    let new : el_d E = record { ptr = p; len = n; items = replicate n None; counted = sym (length-replicate n None) } in
    let new' : el_d S = record { ptr = p'; len = m; items = replicate m None; counted = sym (length-replicate m None) } in
    let right : (Lr E S Z).Denot = record { mark = record {}; first = (p, n); second = (p', m); alloc = a } in
    let three : Val = vstruct (vcons (word p) (vcons (word p') (vcons mark vnil))) in
    let words : WT (word p) = (tt, tt) in let words' : WT (word p') = (tt, tt) in
    let each : WT three = (words, (words', ((tt, tt), tt))) in
    let all : WT (live 0 (vcons three vnil)) = (record { fits = lit< tt }, (each, tt)) in
    lands_as ! e refl (Answer-typed true b o) $ first ! $ switches_on ! (get_tag ! (vrt ! refl (fld ! refl (stop !))) (whole !)) $ exec ! 𝓣.C 𝓣.Λ Ev (arm_body 0 both) Then $
    sets ! (of_opd ! (get_in ! (vrt ! refl (fld ! refl (stop !))) (in_variant ! 0 0 refl refl (whole !)))) refl (tt, tt) $
    sets ! (of_opd ! (get ! refl)) refl (tt, tt) $ sets ! (of_opd ! (get ! refl)) refl (tt, tt) $
    first ! $ blocks ! $ sets ! (of_opd ! (get ! refl)) refl (tt, tt) $ sets ! (of_opd ! (get ! refl)) refl (tt, record { fits = fn }) $
    sets ! (is ! (bin ! (get ! refl) (size_word !) (record { fits = subst (λ (k : ℕ). k < 2 ^ 64) (sym (uncapped n s fm)) fm })) (ap (vint w64) (uncapped n s fm))) refl (tt, record { fits = fm }) $
    sets_last ! (bin ! (get ! refl) (get ! refl) tt) refl (tt, tt) $ exec ! 𝓣.C 𝓣.Λ Ev (after 4 (arm_body 0 both)) Then $
    sets ! (of_opd ! (get ! refl)) refl (tt, tt) $ sets ! (of_opd ! (get ! refl)) refl (tt, tt) $
    sets ! (agg ! (no_more !)) refl (tt, tt) $ sets ! (agg ! (and_then ! (get ! refl) (no_more !))) refl (tt, (tt, tt)) $
    sets ! (of_opd ! (get ! refl)) refl (tt, tt) $ sets ! (agg ! (and_then ! (get ! refl) (no_more !))) refl (tt, words) $
    sets ! (of_opd ! (get ! refl)) refl (tt, tt) $ sets ! (agg ! (and_then ! (get ! refl) (no_more !))) refl (tt, words') $
    sets ! (of_opd ! (get ! refl)) refl (tt, (tt, tt)) $
    sets ! (agg ! (and_then ! (get ! refl) (and_then ! (get ! refl) (and_then ! (get ! refl) (no_more !))))) refl (tt, each) $
    sets_last ! (agg ! (and_then ! (lit ! tt) (and_then ! (get ! refl) (no_more !)))) refl (tt, all) $
    exec ! 𝓣.C 𝓣.Λ Ev (after 4 fn₀.body) (at_ret Ev Post) $ sets ! (of_opd ! (get ! refl)) refl (tt, all) $
    use1 𝓛 (‵ (Rooms (R E) RH n m one 𝓛 b o) ⊛ ‵ (Way (R E) RH n m one 𝓛 b o)) (pair_cut (R E) RH n m one 𝓛 b o) $ split ! $
    -- [room for the rows; the way back; the right to free the block; the tokens]
    move ! (2 ∷ 1 ∷ []) $ fjoin ! $ flt_i ! (pair_bytes (R E) RH n m) (2 ^ 64) fit $ feq_i ! ℕ (type_align RH) 1 one $ fjoin ! $ fjoin ! $
    use0 𝓛 (‵ ((Mark E S Z).own_val (tt, tt) (mark ∷ []))) (marked E S Z 𝓛) $ fjoin ! $
    -- [the lease; room for the rows; the tokens]
    move ! (1 ∷ []) $ fsplit ! $
    use1 𝓛 (‵ (froom (ty_array (elτ E) n) b o)) (𝓛.laws.raw-room (ty_array (elτ E) n) b o) $ use1 𝓛 (‵ (values E new b o)) (of_room E 𝓛 b n o) $
    made E ! new b o refl (subst (λ k. k * s < 2 ^ 63) (sym (length-replicate n None)) small) $ move ! (1 ∷ []) $
    use1 𝓛 (‵ (froom (ty_array (elτ S) m) b at)) (𝓛.laws.raw-room (ty_array (elτ S) m) b at) $ use1 𝓛 (‵ (values S new' b at)) (of_room S 𝓛 b m at) $
    made S ! new' b at refl (subst (λ k. k * sz S < 2 ^ 63) (sym (length-replicate m None)) small') $
    nothing ! $ move ! (3 ∷ 0 ∷ []) $ fjoin ! $ move ! (2 ∷ 1 ∷ 0 ∷ []) $ fjoin3 ! $ feq_i ! (List Val) (three ∷ []) (three ∷ []) refl $ fjoin ! $
    fpack ! (Valss (Pr E ∷ Hr E S Z ∷ Lr E S Z ∷ [])) (within (Declared.shape (tuple_type (Pr E ∷ Hr E S Z ∷ Lr E S Z ∷ []))) (new, (new', (right, tt))) (three ∷ [])) (word p ∷ [], (word p' ∷ [], (mark ∷ [], tt))) $
    use1 𝓛 (‵ (Out.own_val (Ok (new, new', right)) (live 0 (vcons three vnil) ∷ []))) (ok_of 𝓛 Three AE.the_row (new, new', right) three) $
    returns ! (look_at ! 0 refl) $ free_all ! refl $ keep ! (0 ∷ 1 ∷ []) $
    by ! (exits (Ok (new, new', right)) (live 0 (vcons three vnil)) (refl, refl, record { block = refl; behind = refl; allocator = refl })))
    (λ e.
    let Refusal : RattleType = Struct (Declared.shape AE.the_type) in
    let none : WT (live 1 (vcons (vstruct vnil) vnil)) = (record { fits = lit< tt }, (tt, tt)) in
    lands_as ! e refl (Answer-typed false 0 0) $ first ! $ switches_on ! (get_tag ! (vrt ! refl (fld ! refl (stop !))) (whole !)) $ exec ! 𝓣.C 𝓣.Λ Ev (arm_body 1 both) Then $
    sets ! (of_opd ! (get_in ! (vrt ! refl (fld ! refl (stop !))) (in_variant ! 1 0 refl refl (whole !)))) refl (tt, tt) $ sets ! (of_opd ! (get ! refl)) refl (tt, tt) $
    sets_last ! (agg ! (and_then ! (lit ! tt) (and_then ! (get ! refl) (no_more !)))) refl (tt, none) $
    exec ! 𝓣.C 𝓣.Λ Ev (after 4 fn₀.body) (at_ret Ev Post) $ sets ! (of_opd ! (get ! refl)) refl (tt, none) $
    owned ! Refusal (Is Refusal) (Struct-Makes 𝓛 (Declared.shape AE.the_type) tt) tt (vstruct vnil ∷ []) (tt, (refl, tt)) $
    use1 𝓛 (‵ (Out.own_val (Err (record {})) (live 1 (vcons (vstruct vnil) vnil) ∷ []))) (err_of 𝓛 Three AE.the_row (record {}) (vstruct vnil)) $
    returns ! (look_at ! 0 refl) $ free_all ! refl $ keep ! (0 ∷ 1 ∷ []) $ by ! (exits (Err (record {})) (live 1 (vcons (vstruct vnil) vnil)) tt)))))))))))
