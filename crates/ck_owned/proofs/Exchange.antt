-- The `exchange` of a handle. A handle is a struct of one pointer, and its code differs from another's by the types' names alone, so one walk serves them all. Assumes `Logic`.
--     T, at, held, make     the handle's type;  its pointer and what it leads to;  the handle of both. A handle shows the four equations by `refl`
--     function              the code
--     exchanged              that it meets its contract
use Rattle.std.proofs.Common.{◌≡◌, List, [], ◌∷◌, refl, sym}
use seplogic.Ra.Ura.{Ura}
use mir.Syntax.{Fn, Callee, Place, place, copy, deref, field, rv_opd, aggregate, assign, seq, return, local, value_local, named, mut, ty_ptr, ty_ref, ty_named, tnil}
use mir.Val.{Val}
use base.Fraction.{full_share}
use base.Logic.{emp, sep}
use base.Fml.{Fml, ftrue, fsep, flft}
use prog.Model.{Model}
use prog.Wp.{Closed}
use types.Logic.{Logic}
use types.Kit.{‵, raw, ◌⊛◌, ◌$◌, ◌∵◌, !, qed, by, move, keep, drop, use0, split, join, fsplit, fsplit3, fjoin, fjoin3, rewrite}
use types.Run.{stop, fld, of_opd, load, no_more, and_then, assigns, returns, enter}
use types.ByLocal.{alloc_all, pass_all, free_all, look_at, get, get_in, sets, through}
use types.Part.{agg, sub, whole, look_in, store_in}
use contract.Monad.{fact, fact_i}
use contract.Running.{Running, tables}
use denote.Exit.{yes}
use denote.RattleType.{RattleType}
use denote.Laws.{Is, Tells, shows}
use denote.Memory.{cell_at}
use denote.Param.{layout}
use denote.Param.Laws.{Laws}
use denote.RawPtr.{Ptr, rawptr_Lawful}
use denote.Ref.{MutRef, mut_vals, mut_Tells}
use denote.Signature.{plain, mut_ref}
use denote.Steps.{nothing, peeks, opens, closes}
use denote.Struct.Field.{RawPtr-field}
use denote.Struct.Laws.{RawPtr-laws}
use denote.Struct.Struct.{Struct}
use denote.Struct.Owning.{Owning, row, shape}
use denote.Struct.OwningLaws.{Tells-lowered}
use denote.Triple.Clauses.{Ended, Clauses, closing}
use denote.Triple.Spec.{Meets}
use denote.Triple.Walked.{Stays, stay_ref, stay_dropped, walk_of, Goes-ref, Goes-dropped}
use Rattle.std.proofs.raw_atomic.Walks.{proved, leaves}
use Rattle.std.specs.declared.option.Option.{Option}
use Rattle.ck_owned.specs.Place.{place_owns}
use Rattle.ck_owned.proofs.Places.{word, word_fits, struct_of_place}
use Rattle.ck_owned.specs.contracts.Owned as owned
use Rattle.ck_owned.proofs.Owned.TheLaws as owned_laws

module _ (R : RattleType) (L : Laws R) (T : Owning) (at : T.D → Ptr) (held : T.D → Option R.Denot) (make : Ptr → Option R.Denot → T.D) where
  abbrev pub one_pointer : Owning
  one_pointer = record T { args = []; types = []; parts = RawPtr-field ∷ []; as_values = λ d. (at d, tt) }

  abbrev Row : RattleType
  Row = row one_pointer

  abbrev Other : RattleType
  Other = owned.the_row R

  abbrev pub ended : Ended
  ended = record { signature = record { lifetimes = 1; outlives = []; params = mut_ref 0 tt (λ _. Row) ∷ plain (λ _. Other) ∷ []; result = plain (λ _. Other) }; kept = (yes, (yes, tt)) }

  abbrev pub clauses : {M : Type 1} (𝓤 : Ura M) → Clauses 𝓤 ended
  clauses 𝓤 κs a = record { ghost = Unit {0}; requires = λ _. emp 𝓤; ensures = λ _ r e. sep 𝓤 (fact 𝓤 (r.held ≡ held a.0.now)) (fact 𝓤 (held e.0.now ≡ a.1.0.held)) }

  abbrev there : Place
  there = place 1 (deref (layout Row) ∷ field 0 ∷ [])

  abbrev pub function : Fn
  function = record {
    lifetimes = 1;
    outlives = [];
    ty_params = [];
    givens = 0;
    params = 2;
    locals = local (layout Other) value_local ∷ local (ty_ref (named 0) mut (ty_named (T.name, []) tnil)) value_local ∷ local (layout Other) value_local
        ∷ local ty_ptr value_local ∷ local ty_ptr value_local ∷ local ty_ptr value_local ∷ [];
    body = seq (assign (place 3 []) (rv_opd (copy (place 2 (field 0 ∷ []))))) (seq (assign (place 5 []) (rv_opd (copy there))) (seq (assign (place 4 []) (rv_opd (copy (place 5 []))))
        (seq (assign (place 5 []) (rv_opd (copy (place 3 [])))) (seq (assign there (rv_opd (copy (place 5 [])))) (seq (assign (place 0 []) (aggregate (copy (place 4 []) ∷ []))) return)))));
  }

  abbrev stays : Stays ended.signature.params ended.kept
  stays = (stay_ref (0 ∷ []) tt (plain (λ _. Row)), (stay_dropped (plain (λ _. Other)) yes, tt))

  tells : Tells Row (Is Row) (λ d. word (at d) ∷ [])
  tells = Tells-lowered one_pointer (RawPtr-laws, tt)

  module _ (at_made : (p : Ptr) (x : Option R.Denot) → at (make p x) ≡ p) (held_made : (p : Ptr) (x : Option R.Denot) → held (make p x) ≡ x)
      (owns_made : (p : Ptr) (x : Option R.Denot) → T.heap (make p x) ≡ place_owns R p x) (owns : (d : T.D) → T.heap d ≡ place_owns R (at d) (held d)) where
    pub exchanged : {M : Type 1} {𝓤 : Ura M} (𝓛 : Logic 𝓤) (𝓜 : Model 𝓤 𝓛.H) (𝓡 : Running 𝓤 𝓛.H 𝓜) (k : Callee)
        → Closed 𝓤 𝓛.H (tables 𝓤 𝓛.H 𝓜 𝓡 𝓡.env).C (tables 𝓤 𝓛.H 𝓜 𝓡 𝓡.env).Λ k function → Meets 𝓛 ended.signature ((tables 𝓤 𝓛.H 𝓜 𝓡 𝓡.env).C k) (closing 𝓛 ended (clauses 𝓤))
    exchanged {𝓤 = 𝓤} 𝓛 𝓜 𝓡 k closed =
        let 𝓣 = tables 𝓤 𝓛.H 𝓜 𝓡 𝓡.env in let c : Clauses 𝓤 ended = clauses 𝓤 in
        proved 𝓛 ended stays c 𝓜 𝓡 (Goes-ref 𝓛 1 0 tt (plain (λ _. Row)), (Goes-dropped 𝓛 1 (plain (λ _. Other)) yes (λ κs x w. refl), tt)) k function closed
        (λ κs. (mut_vals, ((λ d. word d.at ∷ []), tt))) (λ κs. (mut_Tells (named 0) κs.0 Row, ((owned_laws.lowers R L).val_is, tt))) (λ κs qs bounds a g are.
        let κ = κs.0 in let q = qs.0 in let r = a.0 in let b = r.ref_ptr.0 in let o = r.ref_ptr.1 in let h = r.now in let d = a.1.0 in
        let y : (walk_of 𝓛 ended stays c).Ghost = ((κs, qs, bounds, a, (mut_vals r, (word d.at ∷ [], tt))), g) in
        let h_fits = ((rawptr_Lawful 𝓛).typed (at h) _ refl).0 in let d_fits = ((rawptr_Lawful 𝓛).typed d.at _ refl).0 in
        qed 𝓛 (((‵ (flft κ q) ⊛ ‵ ftrue) ⊛ ‵ (fsep ((MutRef (named 0) κ Row).own_val r (mut_vals r)) (fsep (Other.own_val d (word d.at ∷ [])) ftrue))) ∷ ‵ ftrue ∷ []) ∵
        split ! $ split ! $ move ! (2 ∷ []) $ fsplit3 ! $ move ! (1 ∷ []) $ fsplit ! $ drop ! $ keep ! (1 ∷ 3 ∷ 0 ∷ []) $
        enter ! 𝓣.C 𝓣.Λ function _ _ $ alloc_all ! (λ l. pass_all ! refl ((tt, tt), (word_fits d.at, tt)) $
        fsplit3 ! $ move ! (1 ∷ 2 ∷ 3 ∷ []) $ opens ! tt Row b o (λ us. move ! (1 ∷ []) $ peeks ! Row (Is Row) (shows 𝓛 Row) h us (λ is. fsplit ! $ drop ! $ rewrite ! 0 (λ (P : Fml). ‵ P) (owns h) refl $
        move ! (1 ∷ []) $ rewrite ! 0 (λ (ws : List Val). ‵ (cell_at full_share Row.mir ws b o)) (tells h us is) refl $
        -- [the handle's cell; what stood there; the open borrow, in three entries; the reference's first part; what is to stand there]
        sets ! (of_opd ! (get_in ! (fld ! refl (stop !)) (sub ! 0 refl (whole !)))) refl d_fits $
        sets ! (of_opd ! (load ! (through ! refl (fld ! refl (stop !))) (look_in ! 0 (sub ! 0 refl (whole !))))) refl h_fits $
        sets ! (of_opd ! (get ! refl)) refl h_fits $ sets ! (of_opd ! (get ! refl)) refl d_fits $
        assigns ! (of_opd ! (get ! refl)) (through ! refl (fld ! refl (stop !))) (store_in ! 0 (sub ! 0 refl (whole !)) d_fits) $
        sets ! (agg ! (and_then ! (get ! refl) (no_more !))) refl (word_fits (at h)) $
        let h' = make d.at d.held in move ! (6 ∷ []) $ rewrite ! 0 (λ (P : Fml). ‵ P) (sym (owns_made d.at d.held)) refl $ struct_of_place T.name [] 𝓛 ! d.at (T.heap h') $
        rewrite ! 0 (λ (p : Ptr). ‵ (fsep ((Struct (shape one_pointer)).own_val (p, tt) (word d.at ∷ [])) (T.heap h'))) (sym (at_made d.at d.held)) refl $
        move ! (1 ∷ 0 ∷ 3 ∷ 4 ∷ 5 ∷ []) $ closes ! tt Row h' (word d.at ∷ []) b o $
        -- [the reference's other parts; the token; what stood there; the reference's first part]
        move ! (3 ∷ []) $ struct_of_place (owned.the_type R).name (owned.the_type R).types 𝓛 ! (at h) (place_owns R (at h) (held h)) $
        returns ! (look_at ! 0 refl) $ free_all ! refl $ move ! (4 ∷ 1 ∷ 2 ∷ []) $ fjoin3 ! $ nothing ! $ nothing ! $ fjoin ! $ move ! (1 ∷ 0 ∷ []) $ fjoin ! $ nothing ! $ move ! (3 ∷ 0 ∷ []) $ join ! $
        use0 𝓛 (raw (fact 𝓤 (held h' ≡ d.held))) (fact_i 𝓤 (held h' ≡ d.held) (emp 𝓤) (held_made d.at d.held)) $ use0 𝓛 (raw (fact 𝓤 (held h ≡ held h))) (fact_i 𝓤 (held h ≡ held h) (emp 𝓤) refl) $ join ! $
        keep ! (1 ∷ 2 ∷ 3 ∷ 0 ∷ []) $ by ! (leaves 𝓛 ended stays c y (word (at h)) (record { at = at h; held = held h }) (h', (tt, tt)) (tt, (tt, tt)))))))
