-- `of` keeps the block's pointer.
use Rattle.std.proofs.Common.{List, [], ◌∷◌, ◌++◌, refl}
use mir.Syntax.{a_type}
use mir.Raw.{raw as bare}
use mir.Val.{Val}
use mir.MapTy.{inst_fn}
use base.Logic.{SProp}
use base.Fml.{ftrue, fsep, flft}
use prog.Wp.{WpFn}
use types.Kit.{‵, raw, ◌⊛◌, prop, ◌$◌, ◌∵◌, !, qed, by, move, keep, split, fsplit, fjoin, fpack, regoal}
use types.Run.{stop, fld, of_opd, no_more, and_then, returns, enter}
use types.ByLocal.{alloc_all, pass_all, free_all, look_at, get, get_in, sets}
use types.Part.{agg, sub, whole}
use contract.Monad.{fact}
use contract.BorrowLft.{◌⊑◌}
use contract.Running.{tables}
use denote.Exit.{no}
use denote.Memory.{lone}
use denote.RawPtr.{block_ptr}
use denote.Param.{param, layouts}
use denote.Signature.{plain}
use denote.Steps.{nothing}
use denote.Triple.Walked.{Stays, stay_dropped, walk_of}
use Rattle.core.proofs.alloc.Calls.{Goes-blank}
use Rattle.std.specs.declared.alloc.Global.{Global}
use Rattle.std.specs.contracts.impls.GlobalAllocator.TheImpl.{ghosts}
use Rattle.std.proofs.raw_atomic.Walks.{proved_at, leaves}
use Rattle.std_alloc.specs.Vacant.{vacant}
use Rattle.ck_owned.specs.Place.{frees}
use Rattle.ck_owned.proofs.Places.{word, word_fits, struct_of_place, vacancy, room_word, room_fits, room_out}
use Rattle.ck_owned.specs.contracts.Space.{the_type}
use Rattle.ck_owned.specs.contracts.Space.of as f
use Rattle.ck_owned.specs.contracts.Space.of.Key.{name as #self}
use Rattle.ck_owned.proofs.Space.of.Statement.{statement}
use Rattle.ck_owned.proofs.Space.of.Code as code

pub of_spec : {M : Type 1} → statement M
of_spec {M = M} 𝓤 𝓛 𝓜 𝓡 wired T L =
    let 𝓣 = tables 𝓤 𝓛.H 𝓜 𝓡 𝓡.env in let E = f.ended T in let c = f.clauses T 𝓛 𝓜.mem 𝓡.returns in let R = param 0 T in
    let at = layouts (a_type ∷ []) (T, tt) in let fn = inst_fn at code.function in
    let stays : Stays E.signature.params E.kept = (stay_dropped (plain (λ _. vacancy R)) no, tt) in
    proved_at 𝓛 E stays c 𝓜 𝓡 (Goes-blank 𝓛 1 (plain (λ _. vacancy R)) no (λ κs x w. tt), tt) (#self at) fn (code.unfolded 𝓤 𝓛.H 𝓜 𝓡 wired (T, tt)) (λ z are.
    let κ = z.0.0.0 in let q = z.0.1.0 in let d = z.0.3.0 in let Post : Val → SProp 𝓤 = (walk_of 𝓛 E stays c).post z in
    qed 𝓛 (((‵ (flft κ q) ⊛ ‵ ftrue) ⊛ ‵ (fsep ((vacancy R).own_val d z.0.4.0) ftrue)) ∷ (raw (fact 𝓤 (κ ⊑ T.lives)) ⊛ ‵ ftrue) ∷ []) ∵
    split ! $ move ! (1 ∷ []) $ fsplit ! $ room_out R ! d z.0.4.0 (λ b o hv told fits. let p = block_ptr b o in
    regoal ! (λ (us : List Val). prop (WpFn 𝓤 𝓛.H 𝓣.C 𝓣.Λ fn (us ++ []) Post)) told refl $
    -- [the room; the token; nothing; the token of the call]
    enter ! 𝓣.C 𝓣.Λ fn (room_word b o hv ∷ []) _ $ alloc_all ! (λ l. pass_all ! refl (room_fits b o hv fits, tt) $
    sets ! (of_opd ! (get_in ! (fld ! refl (stop !)) (sub ! 0 refl (whole !)))) refl (tt, tt) $
    sets ! (agg ! (and_then ! (get ! refl) (no_more !))) refl (word_fits p) $
    returns ! (look_at ! 0 refl) $ free_all ! refl $
    move ! (1 ∷ []) $ fpack ! Global (λ heap. ghosts.dealloc_token heap (bare (lone R.mir)) p) d.alloc $ move ! (1 ∷ 0 ∷ []) $ fjoin ! $
    struct_of_place (the_type R).name (the_type R).types 𝓛 ! p (vacant frees R p) $
    nothing ! $ nothing ! $ fjoin ! $ keep ! (3 ∷ 0 ∷ 1 ∷ 2 ∷ []) $ by ! (leaves 𝓛 E stays c z (word p) (record { at = p }) (tt, tt) (tt, tt)))))
