-- A struct of one pointer that owns what stands there, and a box at the heap's allocator. Assumes `Logic`.
--     word p                the struct's machine value, which it tells by its pointer
--     word_fits             it has the struct's layout
--     null_is_null, block_is_not    what the test of a pointer asks and says
--     struct_of_place       what stands at the pointer is the struct's, once its one field is added
--     place_of_box, box_of_place    a box is given up for its place, and taken back. Nothing stands at null, so the test of a pointer tells which it is
--     Handle, handle_laws, spare    the heap's handle as a call passes its type, its laws, and its glue, for it needs no drop
--     vacancy, room_word, room_fits, room_out, room_in    a block of the heap that holds no value, its machine value, which has the layout, and how it is taken apart and made: the room, and the token
--     heap_passed, heap_returned    the tokens and bounds of a call at a type and the handle, from the type's alone, and back
use Rattle.std.proofs.Common.{◌≡◌, ℕ, List, [], ◌∷◌, ◌++◌, refl, sym, ap, ◌∙◌, subst, true, false, lit<}
use lib.Dec.{T}
use seplogic.Ra.Ura.{Ura}
use mir.Syntax.{Sym, Ty, ptr_eq, Dict, impl, dnil, ty_ptr, ty_struct, tcons, tnil}
use mir.Raw.{raw as bare}
use mir.Val.{Val, vptr, vbool, vnull, vstruct, vcons, vnil, of_list, has_ty, WT, ptr_eq_ok, op2_val}
use base.Fraction.{full_share}
use base.Logic.{emp, never, fst∗, guard_i}
use base.Shift.{Keyless}
use base.Fml.{Fml, Lft, Share, fsep, flft, ftrue, froom}
use types.Logic.{Logic, sem}
use types.Kit.{Item, Goal, Seq, Step, step, ‵, raw, ◌⊛◌, given, ◌$◌, move, drop, use0, use1, split3, join, fsplit, fjoin, fpick, fpack, feq_l, feq_i, learn}
use contract.Monad.{fact, fact_i, fact_use}
use contract.BorrowLft.{◌⊑◌, ⊑_refl}
use denote.RattleType.{RattleType, Valss}
use denote.Laws.{Is}
use denote.Memory.{lone}
use denote.Exit.{no}
use denote.Param.{layout, arg}
use denote.Param.Laws.{Laws, arg_laws}
use denote.Param.Send.{IsSend}
use denote.RawPtr.{Ptr, block_ptr, null_ptr, ptr_val, RawPtr, rawptr_pure, InBlock, Testable, tests_null, lies_in_block, room_for, in_a_block}
use denote.Steps.{owned, nothing}
use denote.Struct.Struct.{Shape, Struct, Struct-Makes, within}
use denote.Struct.Owning.{shape}
use Rattle.std.proofs.Crossing.{frees}
use Rattle.std.proofs.GlobalToken.{dealloc_token-Testable}
use Rattle.std.specs.Ptr.{points_to}
use Rattle.std.specs.declared.option.Option.{Option}
use Rattle.std.specs.declared.option.Option.TheVariants.{None, Some}
use Rattle.std.specs.declared.alloc.Global.{Global}
use Rattle.std.specs.contracts.alloc.Global as heap
use Rattle.std.proofs.alloc.Global.TheLaws as heap_laws
use Rattle.std.specs.contracts.impls.GlobalAllocator.TheImpl.{ghosts, dict}
use Rattle.core.proofs.alloc.Calls.{Al, Fits, handle_tells}
use Rattle.std_alloc.specs.Box.Ownership.{box_owns}
use Rattle.std_alloc.specs.Vacant.{vacant as owns_room}
use Rattle.std_alloc.specs.contracts.room.vacant.Vacant as vacant
use Rattle.std_alloc.proofs.ResultValues.{and_tt}
use Rattle.std_alloc.specs.contracts.boxed.Box as box
use Rattle.std_alloc.proofs.SendSync.{lies}
use Rattle.ck_owned.specs.Place.{place_owns, frees as place_frees}
use Rattle.ck_owned.proofs.Destruct++none.drop.Symbol.{symbol as no_drop}

abbrev pub word : Ptr → Val
word p = vstruct (vcons (ptr_val p) vnil)

-- the struct's name makes no difference
pub word_fits : (p : Ptr) → T (has_ty (ty_struct [] (tcons ty_ptr tnil)) (word p)) × WT (word p)
word_fits (block_ptr b o) = (tt, (tt, tt))
word_fits null_ptr = (tt, (record { fits = lit< tt }, tt))

pub null_is_null : (p : Ptr) → p ≡ null_ptr → T (ptr_eq_ok (ptr_val p) vnull) × (op2_val ptr_eq (ptr_val p) vnull ≡ vbool true)
null_is_null p e = (tests_null p (subst Testable (sym e) (lit< tt)), ap (λ (s : Ptr). op2_val ptr_eq (ptr_val s) vnull) e)

pub block_is_not : (p : Ptr) → InBlock p → Testable p → T (ptr_eq_ok (ptr_val p) vnull) × (op2_val ptr_eq (ptr_val p) vnull ≡ vbool false)
block_is_not (block_ptr b o) is test = (tests_null (block_ptr b o) test, refl)
block_is_not null_ptr is test = absurd is

module _ (ν : Sym) (types : List RattleType) where
  abbrev pub one_pointer : Shape
  one_pointer = record { name = ν; args = []; types = types; fields = RawPtr ∷ [] }

  module _ {M : Type 1} {𝓤 : Ura M} (𝓛 : Logic 𝓤) {K : Type 0} {Γ : List (Item 𝓤)} {G : Goal 𝓤 𝓛.H} where
    pub struct_of_place : K → (p : Ptr) (F : Fml) → Step K 𝓛 (‵ (fsep ((Struct one_pointer).own_val (p, tt) (word p ∷ [])) F) ∷ Γ) G (‵ F ∷ Γ) G
    struct_of_place t p F = step (λ s.
        owned t (Struct one_pointer) (Is (Struct one_pointer)) (Struct-Makes 𝓛 one_pointer (rawptr_pure, tt)) (p, tt) (word p ∷ []) ((ptr_val p ∷ [], tt), (refl, (refl, tt))) $
        fjoin t $ s)

-- a box of the heap
abbrev pub boxed : RattleType → RattleType
boxed R = box.the_row R heap.the_row ghosts

abbrev pub Handle : RattleType
Handle = arg (bare (layout heap.the_row)) no heap.the_row

abbrev pub handle_laws : Laws Handle
handle_laws = arg_laws (bare (layout heap.the_row)) no heap.the_row heap_laws.the_row_laws refl

abbrev pub spare : Dict
spare = impl (no_drop ∷ []) (tcons (layout Handle) tnil) dnil

module _ (R : RattleType) {M : Type 1} {𝓤 : Ura M} {𝓛 : Logic 𝓤} {K : Type 0} {Γ : List (Item 𝓤)} {G : Goal 𝓤 𝓛.H} where
  -- a box given up stands where its pointer leads
  pub place_of_box : K → (alloc : Global) (p : Ptr) (x : R.Denot) → Step K 𝓛 (‵ (place_owns R p (Some x)) ∷ Γ) G (‵ (box_owns (ghosts.dealloc_token alloc) R p x) ∷ Γ) G
  place_of_box t alloc p x = step (λ s.
      fsplit t $ move t (1 ∷ []) $ fpack t Global (λ heap. ghosts.dealloc_token heap (bare (lone R.mir)) p) alloc $ move t (1 ∷ 0 ∷ []) $ fjoin t $ s)

  pub box_of_place : K → (alloc : Global) (p : Ptr) (held : Option R.Denot) → (p ≡ null_ptr → held ≡ None → Seq K 𝓛 Γ G)
      → ((x : R.Denot) → held ≡ Some x → InBlock p → Testable p → Seq K 𝓛 (‵ (box_owns (ghosts.dealloc_token alloc) R p x) ∷ Γ) G) → Seq K 𝓛 (‵ (place_owns R p held) ∷ Γ) G
  box_of_place t alloc p None none one = fpick t (λ e. drop t $ none e refl)
  box_of_place t alloc p (Some x) none one =
      fsplit t $ use1 𝓛 (given (InBlock p) (‵ (points_to R p x))) (fact_use 𝓤 (InBlock p) (lies_in_block 𝓛 R full_share p x) (λ is. guard_i 𝓤 (InBlock p) (sem 𝓛 (points_to R p x)) is)) $ learn t (λ is.
      let token = ghosts.dealloc_token alloc (bare (lone R.mir)) p in
      move t (1 ∷ []) $ fpick t (λ heap. use1 𝓛 (given (Testable p) (‵ token)) (fact_use 𝓤 (Testable p) (dealloc_token-Testable 𝓛 alloc (bare (lone R.mir)) p) (λ test. guard_i 𝓤 (Testable p) (sem 𝓛 token) test)) $ learn t (λ test.
      move t (1 ∷ 0 ∷ []) $ fjoin t $ one x refl is test)))

-- a block of the heap that holds no value
abbrev pub vacancy : RattleType → RattleType
vacancy R = vacant.the_row R heap.the_row ghosts

abbrev pub room_word : ℕ → ℕ → Val → Val
room_word b o hv = vstruct (vcons (vptr b o) (vcons hv vnil))

abbrev Heap : Al
Heap = record { row = heap.the_row; laws = heap_laws.the_row_laws; g = ghosts; d = dict; drops = spare }

-- the struct's name makes no difference
pub room_fits : (b o : ℕ) (hv : Val) → Fits Heap hv → T (has_ty (ty_struct [] (tcons ty_ptr (tcons (layout heap.the_row) tnil))) (room_word b o hv)) × WT (room_word b o hv)
room_fits b o hv fits = (and_tt (has_ty (layout heap.the_row) hv) fits.0, (tt, (fits.1, tt)))

module _ (R : RattleType) {M : Type 1} {𝓤 : Ura M} {𝓛 : Logic 𝓤} {K : Type 0} {Γ : List (Item 𝓤)} {G : Goal 𝓤 𝓛.H} where
  pub room_out : K → (d : (vacancy R).Denot) (vs : List Val)
      → ((b o : ℕ) (hv : Val) → vs ≡ room_word b o hv ∷ [] → Fits Heap hv → Seq K 𝓛 (‵ (froom (bare (lone R.mir)) b o) ∷ ‵ (ghosts.dealloc_token d.alloc (bare (lone R.mir)) (block_ptr b o)) ∷ Γ) G)
      → Seq K 𝓛 (‵ ((vacancy R).own_val d vs) ∷ Γ) G
  room_out t d vs k =
      fsplit t $ fpick t (λ parts. fsplit t $ feq_l t (λ all. fsplit t $ feq_l t (λ pointer. fsplit t $ handle_tells Heap t d.alloc parts.1.0 (λ hv handle fits. drop t $ drop t $
      in_a_block t d.ptr (owns_room (ghosts.dealloc_token d.alloc) R) (fst∗ 𝓤 (never 𝓤) (sem 𝓛 (ghosts.dealloc_token d.alloc (bare (lone R.mir)) null_ptr))) (λ b o at. fsplit t $
      k b o hv (all ∙ ((λ i. vstruct (of_list (pointer i ++ (handle i ++ []))) ∷ []) ∙ ap (λ (p : Ptr). vstruct (vcons (ptr_val p) (vcons hv vnil)) ∷ []) at)) fits)))))

  pub room_in : K → (a : Global) (b o : ℕ) (hv : Val)
      → Step K 𝓛 (‵ ((vacancy R).own_val (record { ptr = block_ptr b o; alloc = a }) (room_word b o hv ∷ [])) ∷ Γ) G
      (‵ (froom (bare (lone R.mir)) b o) ∷ ‵ (ghosts.dealloc_token a (bare (lone R.mir)) (block_ptr b o)) ∷ ‵ (heap.the_row.own_val a (hv ∷ [])) ∷ Γ) G
  room_in t a b o hv = step (λ s. let w = room_word b o hv in
      fjoin t $ move t (1 ∷ []) $ nothing t $ move t (1 ∷ 0 ∷ []) $ fjoin t $ feq_i t (List Val) (vptr b o ∷ []) (vptr b o ∷ []) refl $ fjoin t $ feq_i t (List Val) (w ∷ []) (w ∷ []) refl $ fjoin t $
      fpack t (Valss (RawPtr ∷ heap.the_row ∷ [])) (within (shape (vacant.the_type R heap.the_row ghosts)) (block_ptr b o, (a, tt)) (w ∷ [])) (vptr b o ∷ [], (hv ∷ [], tt)) $ fjoin t $ s)

abbrev pub both_tokens : {M : Type 1} {𝓤 : Ura M} → Lft → Share → Item 𝓤
both_tokens κ q = ‵ (flft κ q) ⊛ ‵ (flft [] full_share) ⊛ ‵ ftrue

module _ {M : Type 1} {𝓤 : Ura M} {𝓛 : Logic 𝓤} {K : Type 0} {Γ : List (Item 𝓤)} {G : Goal 𝓤 𝓛.H} where
  pub heap_passed : K → {κ ρ : Lft} {q : Share} {i : Item 𝓤} → Step K 𝓛 (both_tokens κ q ∷ (raw (fact 𝓤 (κ ⊑ ρ)) ⊛ raw (fact 𝓤 ([] ⊑ Handle.lives)) ⊛ i) ∷ Γ) G (‵ (flft κ q) ∷ raw (fact 𝓤 (κ ⊑ ρ)) ∷ i ∷ Γ) G
  heap_passed t = step (λ s.
      nothing t $ use0 𝓛 (‵ (flft [] full_share)) (𝓛.lfts.lft-nil full_share) $ join t $ move t (1 ∷ 0 ∷ []) $ join t $ move t (2 ∷ []) $
      use0 𝓛 (raw (fact 𝓤 ([] ⊑ Handle.lives))) (fact_i 𝓤 ([] ⊑ Handle.lives) (emp 𝓤) (⊑_refl [])) $ join t $ move t (2 ∷ 0 ∷ []) $ join t $ move t (1 ∷ []) $ s)

  pub heap_returned : K → {κ : Lft} {q : Share} → Step K 𝓛 ((‵ (flft κ q) ⊛ ‵ ftrue) ∷ Γ) G (both_tokens κ q ∷ Γ) G
  heap_returned t = step (λ s. split3 t $ move t (1 ∷ []) $ drop t $ join t $ s)

-- what stands at a pointer may go to another thread where the value may
pub place_keyless : (R : RattleType) → IsSend R → (p : Ptr) (held : Option R.Denot) → Keyless (place_owns R p held)
place_keyless R s p None = λ _. tt
place_keyless R s p (Some x) = (lies R s p x, λ heap. frees.frees heap (bare (lone R.mir)) p)

room_keyless : (τ : Ty) (p : Ptr) → Keyless (room_for τ p)
room_keyless τ (block_ptr b o) = tt
room_keyless τ null_ptr = tt

-- a block with no value may go to another thread
pub space_keyless : (R : RattleType) (p : Ptr) → Keyless (owns_room place_frees R p)
space_keyless R p = (room_keyless (bare (lone R.mir)) p, λ heap. frees.frees heap (bare (lone R.mir)) p)
