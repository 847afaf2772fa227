-- `into_room` puts the pointer beside the handle to the heap.
use Rattle.std.proofs.Common.{◌≡◌, List, [], ◌∷◌, ◌++◌, refl}
use mir.Syntax.{a_type}
use mir.Raw.{raw as bare}
use mir.Val.{Val}
use mir.MapTy.{inst_fn}
use base.Logic.{SProp, never, fst∗}
use base.Fml.{ftrue, fsep, flft}
use prog.Wp.{WpFn}
use types.Logic.{sem}
use types.Kit.{‵, raw, ◌⊛◌, prop, ◌$◌, ◌∵◌, !, qed, by, move, keep, drop, split, fsplit, fjoin, fpick, rewrite, regoal}
use types.Run.{stop, fld, of_opd, no_more, and_then, returns, enter}
use types.ByLocal.{alloc_all, pass_all, free_all, look_at, get, get_in, sets}
use types.Part.{agg, sub, whole}
use contract.Monad.{fact}
use contract.BorrowLft.{◌⊑◌}
use contract.Running.{tables}
use denote.Exit.{yes, no}
use denote.Memory.{lone}
use denote.RawPtr.{Ptr, block_ptr, null_ptr, in_a_block}
use denote.Param.{param, layout, layouts}
use denote.Param.Laws.{param_laws}
use denote.Signature.{plain}
use denote.Steps.{nothing}
use denote.Triple.Walked.{Stays, stay_dropped, walk_of, Goes-dropped}
use Rattle.core.proofs.cell.Inside.{one}
use Rattle.std.specs.contracts.alloc.Global as heap
use Rattle.std.proofs.alloc.Global.TheLaws as heap_laws
use Rattle.std.proofs.raw_atomic.Walks.{proved_at, leaves}
use Rattle.std_alloc.specs.Vacant.{vacant}
use Rattle.ck_owned.specs.Place.{frees}
use Rattle.ck_owned.proofs.Places.{word, word_fits, room_word, room_fits, room_in}
use Rattle.ck_owned.proofs.Space.TheLaws.{lowers}
use Rattle.ck_owned.specs.contracts.Space.{the_row}
use Rattle.ck_owned.specs.contracts.Space.into_room as f
use Rattle.ck_owned.specs.contracts.Space.into_room.Key.{name as #self}
use Rattle.ck_owned.proofs.Space.into_room.Statement.{statement}
use Rattle.ck_owned.proofs.Space.into_room.Code as code

pub into_room_spec : {M : Type 1} → statement M
into_room_spec {M = M} 𝓤 𝓛 𝓜 𝓡 wired T L =
    let 𝓣 = tables 𝓤 𝓛.H 𝓜 𝓡 𝓡.env in let E = f.ended T in let c = f.clauses T 𝓛 𝓜.mem 𝓡.returns in let R = param 0 T in
    let at = layouts (a_type ∷ []) (T, tt) in let fn = inst_fn at code.function in
    let stays : Stays E.signature.params E.kept = (stay_dropped (plain (λ _. the_row R)) no, (stay_dropped (plain (λ _. heap.the_row)) yes, tt)) in
    proved_at 𝓛 E stays c 𝓜 𝓡 (Goes-dropped 𝓛 1 (plain (λ _. the_row R)) no (λ κs x w. refl), (Goes-dropped 𝓛 1 (plain (λ _. heap.the_row)) yes (λ κs x w. refl), tt))
    (#self at) fn (code.unfolded 𝓤 𝓛.H 𝓜 𝓡 wired (T, tt)) (λ z are.
    let κ = z.0.0.0 in let q = z.0.1.0 in let d = z.0.3.0 in let a = z.0.3.1.0 in let Post : Val → SProp 𝓤 = (walk_of 𝓛 E stays c).post z in
    let told : z.0.4.0 ≡ word d.at ∷ [] = (lowers R (param_laws 0 T L)).val_is d z.0.4.0 are.0 in
    let h = one (layout heap.the_row) z.0.4.1.0 ((heap_laws.the_row_laws.lawful 𝓛).typed a z.0.4.1.0 are.1.0) in
    qed 𝓛 (((‵ (flft κ q) ⊛ ‵ ftrue) ⊛ ‵ (fsep ((the_row R).own_val d z.0.4.0) (fsep (heap.the_row.own_val a z.0.4.1.0) ftrue))) ∷ (raw (fact 𝓤 (κ ⊑ T.lives)) ⊛ ‵ ftrue) ∷ []) ∵
    split ! $ move ! (1 ∷ []) $ fsplit ! $ move ! (1 ∷ []) $ fsplit ! $ rewrite ! 0 (λ (us : List Val). ‵ (heap.the_row.own_val a us)) h.1 refl $ move ! (2 ∷ []) $ fsplit ! $ drop ! $
    regoal ! (λ (us : List Val). prop (WpFn 𝓤 𝓛.H 𝓣.C 𝓣.Λ fn (us ++ (z.0.4.1.0 ++ [])) Post)) told refl $
    regoal ! (λ (us : List Val). prop (WpFn 𝓤 𝓛.H 𝓣.C 𝓣.Λ fn (word d.at ∷ (us ++ [])) Post)) h.1 refl $
    -- [the block; the handle; nothing; the token of the call]
    in_a_block ! d.at (vacant frees R) (fst∗ 𝓤 (never 𝓤) (sem 𝓛 (frees (bare (lone R.mir)) null_ptr))) (λ b o there. let p = block_ptr b o in let w = room_word b o h.0 in
    regoal ! (λ (r : Ptr). prop (WpFn 𝓤 𝓛.H 𝓣.C 𝓣.Λ fn (word r ∷ h.0 ∷ []) Post)) there refl $ fsplit ! $ move ! (1 ∷ []) $ fpick ! (λ other.
    enter ! 𝓣.C 𝓣.Λ fn (word p ∷ h.0 ∷ []) _ $ alloc_all ! (λ l. pass_all ! refl (word_fits p, (h.2, tt)) $
    sets ! (of_opd ! (get_in ! (fld ! refl (stop !)) (sub ! 0 refl (whole !)))) refl (tt, tt) $
    sets ! (agg ! (and_then ! (get ! refl) (and_then ! (get ! refl) (no_more !)))) refl (room_fits b o h.0 h.2) $
    returns ! (look_at ! 0 refl) $ free_all ! refl $ move ! (1 ∷ 0 ∷ 2 ∷ []) $ room_in R ! a b o h.0 $
    nothing ! $ nothing ! $ fjoin ! $ nothing ! $ fjoin ! $ keep ! (3 ∷ 0 ∷ 1 ∷ 2 ∷ []) $ by ! (leaves 𝓛 E stays c z w (record { ptr = p; alloc = a }) (tt, (tt, tt)) (tt, (tt, tt)))))))
