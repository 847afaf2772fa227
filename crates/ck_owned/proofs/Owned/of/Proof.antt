-- `of` gives the box up for its pointer.
use Rattle.std.proofs.Common.{◌≡◌, List, [], ◌∷◌, ◌++◌, refl, ap}
use mir.Syntax.{a_type, dcons, dnil}
use mir.Val.{Val}
use mir.MapTy.{inst_fn}
use base.Fraction.{full_share}
use base.Logic.{emp, id⊢}
use base.Fml.{ftrue, fsep, flft}
use prog.Wp.{WpFn}
use types.Kit.{‵, raw, ◌⊛◌, some, later, prop, ◌$◌, ◌∵◌, !, qed, by, move, keep, drop, use0, use1, split, join, fjoin, feq_l, pick, await, rewrite, regoal}
use types.Run.{of_opd, no_more, and_then, returns, enter}
use types.ByLocal.{alloc_all, pass_all, free_all, look_at, get, sets, lands_as}
use types.Part.{agg}
use contract.Monad.{fact, fact_i}
use contract.BorrowLft.{◌⊑◌}
use contract.Running.{tables}
use denote.Exit.{no}
use denote.RawPtr.{Ptr, RawPtr, rawptr_Lawful}
use denote.Param.{param, layout, bounded}
use denote.Param.Laws.{param_laws}
use denote.Signature.{plain}
use denote.Steps.{nothing, only}
use denote.Triple.Call.{calls_at}
use denote.Triple.Clauses.{Lasts, lasts}
use denote.Triple.Spec.{triple_of}
use denote.Triple.Table.{framed}
use denote.Triple.Walked.{Stays, stay_dropped, walk_of}
use Rattle.core.proofs.alloc.Calls.{Goes-blank}
use Rattle.core.proofs.cell.Inside.{one}
use Rattle.std.specs.declared.option.Option.TheVariants.{Some}
use Rattle.std.specs.contracts.alloc.Global as heap
use Rattle.std.proofs.alloc.Global.TheLaws as heap_laws
use Rattle.std.specs.contracts.impls.GlobalAllocator.TheImpl.{ghosts, dict}
use Rattle.std.proofs.impls.GlobalAllocator.TheImpl.Met.{passed}
use Rattle.std.proofs.raw_atomic.Walks.{proved_at, leaves}
use Rattle.std_alloc.specs.Box.Ownership.{box_owns}
use Rattle.std_alloc.proofs.boxed.Box.TheLaws as box_laws
use Rattle.std_alloc.specs.contracts.boxed.Box.into_raw as callee
use Rattle.std_alloc.proofs.boxed.Box.into_raw.Met.{met}
use Rattle.ck_owned.specs.Place.{place_owns}
use Rattle.ck_owned.proofs.Destruct++none.drop.Symbol.{glues}
use Rattle.ck_owned.proofs.Places.{word, word_fits, struct_of_place, boxed, Handle, handle_laws, spare, place_of_box, both_tokens, heap_passed, heap_returned}
use Rattle.ck_owned.specs.contracts.Owned.{the_type}
use Rattle.ck_owned.specs.contracts.Owned.of as f
use Rattle.ck_owned.specs.contracts.Owned.of.Key.{name as #self}
use Rattle.ck_owned.proofs.Owned.of.Statement.{statement}
use Rattle.ck_owned.proofs.Owned.of.Code as code

pub of_spec : {M : Type 1} → statement M
of_spec {M = M} 𝓤 𝓛 𝓜 𝓡 wired T L drops glue =
    let 𝓣 = tables 𝓤 𝓛.H 𝓜 𝓡 𝓡.env in let E = f.ended T drops in let c = f.clauses T drops 𝓛 𝓜.mem 𝓡.returns in let R = param 0 T in
    let at = bounded (a_type ∷ []) (T, tt) (dcons drops dnil) in let fn = inst_fn at code.function in
    let stays : Stays E.signature.params E.kept = (stay_dropped (plain (λ _. boxed R)) no, tt) in
    proved_at 𝓛 E stays c 𝓜 𝓡 (Goes-blank 𝓛 1 (plain (λ _. boxed R)) no (λ κs x w. tt), tt) (#self at) fn (code.unfolded 𝓤 𝓛.H 𝓜 𝓡 wired (T, tt) drops) (λ z are.
    let κ = z.0.0.0 in let q = z.0.1.0 in let b = z.0.3.0 in
    let w = one (layout (boxed R)) z.0.4.0 (((box_laws.the_row_laws R heap.the_row ghosts (param_laws 0 T L) heap_laws.the_row_laws).lawful 𝓛).typed b z.0.4.0 are.0) in
    let k = triple_of 𝓛 (callee.signature T Handle ghosts dict spare drops) (callee.spec T Handle ghosts dict spare drops 𝓛 𝓜.mem 𝓡.returns) in
    let y : k.Ghost = (((κ, ([], tt)), (q, (full_share, tt)), tt, (b, tt), (w.0 ∷ [], tt)), tt) in
    qed 𝓛 (((‵ (flft κ q) ⊛ ‵ ftrue) ⊛ ‵ (fsep ((boxed R).own_val b z.0.4.0) ftrue)) ∷ (raw (fact 𝓤 (κ ⊑ T.lives)) ⊛ ‵ ftrue) ∷ []) ∵
    split ! $ split ! $ move ! (3 ∷ []) $ split ! $ move ! (2 ∷ 0 ∷ 1 ∷ []) $ heap_passed ! $
    -- [the tokens; the bounds; nothing; the box]
    move ! (3 ∷ []) $ rewrite ! 0 (λ (us : List Val). ‵ (fsep ((boxed R).own_val b us) ftrue)) w.1 refl $ move ! (1 ∷ 0 ∷ []) $ join ! $ join ! $ use1 𝓛 (raw (k.pre y)) (id⊢ 𝓤 _) $
    regoal ! (λ (us : List Val). prop (WpFn 𝓤 𝓛.H 𝓣.C 𝓣.Λ fn (us ++ []) ((walk_of 𝓛 E stays c).post z))) w.1 refl $
    enter ! 𝓣.C 𝓣.Λ fn (w.0 ∷ []) _ $ alloc_all ! (λ l. pass_all ! refl (w.2, tt) $ sets ! (of_opd ! (get ! refl)) refl w.2 $
    calls_at ! (framed 𝓤 𝓛.H 𝓜 𝓣) k (met 𝓤 𝓛 𝓜 𝓡 (code.calls-std_alloc::boxed::Box::into_raw 𝓡.env wired) T Handle L handle_laws ghosts dict spare drops
    (passed 𝓡.env (code.calls-std_heap::GlobalAllocator::allocate 𝓡.env wired) (code.calls-std_heap::GlobalAllocator::deallocate 𝓡.env wired)
    (code.calls-std_heap::GlobalAllocator::grow 𝓡.env wired) (code.calls-std_heap::GlobalAllocator::shrink 𝓡.env wired) M 𝓤 𝓛 𝓜 𝓡)
    (glues 𝓡.env (code.calls-ck_owned::Destruct++none::drop 𝓡.env wired) Handle handle_laws M 𝓤 𝓛 𝓜 𝓡) glue) y (and_then ! (get ! refl) (no_more !)) (λ u.
    use1 𝓛 (later (some (λ (p : Ptr). (both_tokens κ q ⊛ ‵ (RawPtr.own_val p (u ∷ []))) ⊛ some (λ (ws : Lasts (callee.ended T Handle ghosts dict spare drops) y.0.0 y.0.3).
    ‵ (lasts (callee.ended T Handle ghosts dict spare drops) y.0.0 y.0.3 ws) ⊛ ‵ (box_owns (ghosts.dealloc_token b.alloc) R p b.value))))) (id⊢ 𝓤 (k.post y u)) $
    await ! tt $ pick ! (λ p. split ! $ split ! $ move ! (2 ∷ []) $ pick ! (λ ws. split ! $ drop ! $ move ! (2 ∷ []) $ feq_l ! (λ told.
    lands_as ! (ap only told) refl ((rawptr_Lawful 𝓛).typed p _ refl).0 $
    sets ! (agg ! (and_then ! (get ! refl) (no_more !))) refl (word_fits p) $
    returns ! (look_at ! 0 refl) $ free_all ! refl $
    -- [the box's block; the tokens; nothing; nothing]
    place_of_box R ! b.alloc p b.value $ struct_of_place (the_type R).name (the_type R).types 𝓛 ! p (place_owns R p (Some b.value)) $
    use0 𝓛 (raw (fact 𝓤 (Some b.value ≡ Some b.value))) (fact_i 𝓤 (Some b.value ≡ Some b.value) (emp 𝓤) refl) $ move ! (2 ∷ []) $ heap_returned ! $
    nothing ! $ nothing ! $ fjoin ! $ keep ! (1 ∷ 0 ∷ 3 ∷ 2 ∷ []) $ by ! (leaves 𝓛 E stays c z (word p) (record { at = p; held = Some b.value }) (tt, tt) (tt, tt))))))))
