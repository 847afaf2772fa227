-- What a `Places` owns is taken apart and made, also behind a `&mut`, and what a `&` to one shows.
use mathlib.Core.Path.{◌≡◌, refl, sym, ap, subst, ◌∙◌}
use Prim.Native.Nat.{ℕ, ◌+◌, ◌*◌, ◌<◌, ◌^◌}
use mathlib.Core.List.{List, [], ◌∷◌, ◌++◌}
use native.Mathlib.Omega.{arith}
use lib.ListN.{length, get_or, set, length-set}
use seplogic.Ra.Ura.{Ura}
use base.Fraction.{full_share}
use mir.Val.{Val, vptr, vstruct, vcons, vnil, of_list}
use base.Logic.{ent, sep, never, id⊢}
use base.Stored.{Gv}
use base.Fml.{Lft, GName, Share, Fml, fsep, flft, fobs, fauth, fbor, fobor, fhide}
use types.Logic.{Logic, sem}
use contract.Monad.{fact}
use types.Kit.{raw, use2, Goal, Soaks, Step, step, Seq, Item, ‵, ◌⊛◌, ◌$◌, ◌∵◌, !, qed, move, keep, drop, use1, split, rewrite, fsplit, fjoin, fpick, fpack, feq_l, feq_i, flt_l, flt_i, done}
use types.SemTy.{Body}
use denote.RattleType.{RattleType, Valss}
use denote.Memory.{cell_at, mem, hidden_shr}
use denote.Opens.{unhide}
use denote.RawPtr.{Ptr, RawPtr, block_ptr, in_a_block}
use denote.Steps.{opens, closes, nothing, heard}
use denote.Struct.Lending.{lent_out}
use denote.Struct.Struct.{Struct, within}
use denote.Struct.Owning.{Owning, shape}
use Rattle.core.proofs.mem.Param.{El, R, el_x}
use Rattle.core.proofs.ptr.Rows.{times_below, one_below}
use Rattle.std.specs.Prelude.{None, Some, IsSome}
use Rattle.std_alloc.proofs.RcSteps.{word}
use Rattle.ck_room.specs.Memory.{row, owned, lent, place}
use Rattle.ck_room.specs.declared.Places.{Places}
use Rattle.ck_room.specs.contracts.Places as C
use Rattle.ck_room.proofs.Memory.{sz, Place, value_of, full_inside, Besides, place_out, place_in}

module _ (E : El) where
  abbrev pub owning : Owning
  owning = C.the_type (R E)

  abbrev pub Pr : RattleType
  Pr = C.the_row (R E)

  abbrev pub el_d : Type 0
  el_d = Places (el_x E)

  -- the one data field, as a plain struct
  abbrev pub Words : RattleType
  Words = Struct (shape owning)

  abbrev pub values : el_d → ℕ → ℕ → Fml
  values d b o = row (R E) b o d.items

  abbrev pub Fits : el_d → Type 0
  Fits d = length d.items * sz E < 2 ^ 63

  -- the same block, with this in place i
  abbrev pub with_place : el_d → ℕ → Place E → el_d
  with_place d i c = record { ptr = d.ptr; len = d.len; items = set d.items i c; counted = d.counted ∙ sym (length-set d.items i c) }

  -- a value's size and how far a place is from the first fit a word
  pub spaced : (d : el_d) (i : ℕ) → i < length d.items → Fits d → (sz E < 2 ^ 64) × (i * sz E < 2 ^ 64)
  spaced d i inside fit =
      let small : sz E < 2 ^ 63 = one_below (length d.items) (sz E) (2 ^ 63) (omega arith) fit in
      let part : i * sz E < 2 ^ 63 = times_below i (length d.items) (sz E) (2 ^ 63) (omega arith) fit in
      (omega arith, omega arith)

module _ (E : El) {M : Type 1} {𝓤 : Ura M} {𝓛 : Logic 𝓤} {K : Type 0} {Γ : List (Item 𝓤)} {G : Goal 𝓤 𝓛.H} where
  pub had : K → (d : el_d E) (vs : List Val)
      → ((b o : ℕ) → d.ptr ≡ block_ptr b o → vs ≡ word (block_ptr b o) ∷ [] → Fits E d → Seq K 𝓛 (‵ (values E d b o) ∷ Γ) G)
      → Seq K 𝓛 (‵ ((Pr E).own_val d vs) ∷ Γ) G
  had t d vs k =
      fsplit t $ fpick t (λ vss. fsplit t $ feq_l t (λ all. fsplit t $ feq_l t (λ e₀. drop t $
      in_a_block t d.ptr (λ p. owned (R E) p d.items) (id⊢ 𝓤 (never 𝓤)) (λ b o e. fsplit t $ flt_l t (λ fit.
      k b o e (all ∙ ((λ i. vstruct (of_list (e₀ i ++ [])) ∷ []) ∙ ap (λ (p : Ptr). word p ∷ []) e)) fit)))))

  pub made : K → (d : el_d E) (b o : ℕ) → d.ptr ≡ block_ptr b o → Fits E d
      → Step K 𝓛 (‵ ((Pr E).own_val d (word (block_ptr b o) ∷ [])) ∷ Γ) G (‵ (values E d b o) ∷ Γ) G
  made t d b o at fit = step (λ s.
      flt_i t (length d.items * sz E) (2 ^ 63) fit $ fjoin t $
      nothing t $
      feq_i t (List Val) (vptr b o ∷ []) (vptr b o ∷ []) refl $ fjoin t $ feq_i t (List Val) (word (block_ptr b o) ∷ []) (word (block_ptr b o) ∷ []) refl $ fjoin t $
      fpack t (Valss (shape (owning E)).fields) (within (shape (owning E)) (block_ptr b o, tt) (word (block_ptr b o) ∷ [])) (vptr b o ∷ [], tt) $ fjoin t $
      rewrite t 0 (λ (p : Ptr). ‵ (fsep ((Words E).own_val (p, tt) (word (block_ptr b o) ∷ [])) (owned (R E) p d.items))) (sym at) refl $ s)

module _ (E : El) {M : Type 1} {𝓤 : Ura M} {𝓛 : Logic 𝓤} {K : Type 0} {Γ : List (Item 𝓤)} {G : Goal 𝓤 𝓛.H} where
  -- [the values; the word; the open borrow; obs; auth]
  pub opened : K → Soaks G → {κ : Lft} {q : Share} {γ : GName} (d : el_d E) (rb ro : ℕ)
      → ((b o : ℕ) → d.ptr ≡ block_ptr b o → Fits E d
      → Seq K 𝓛 (‵ (values E d b o) ∷ ‵ (cell_at full_share (Pr E).mir (word (block_ptr b o) ∷ []) rb ro) ∷ ‵ (fobor κ q (Body (mem (Pr E)) rb ro γ)) ∷ ‵ (fobs γ ((Pr E).coded.code d)) ∷ ‵ (fauth γ ((Pr E).coded.code d)) ∷ Γ) G)
      → Seq K 𝓛 (‵ (fobs γ ((Pr E).coded.code d)) ∷ ‵ (fbor κ (Body (mem (Pr E)) rb ro γ)) ∷ ‵ (flft κ q) ∷ Γ) G
  opened t z d rb ro k =
      opens t z (Pr E) {h = d} rb ro (λ vs. move t (1 ∷ []) $ had E t d vs (λ b o e is fit.
      rewrite t 1 (λ (ws : List Val). ‵ (cell_at full_share (Pr E).mir ws rb ro)) is refl $ k b o e fit))

  pub closed : K → Soaks G → {κ : Lft} {q : Share} {u v : Gv} {γ : GName} (d : el_d E) (b o rb ro : ℕ) → d.ptr ≡ block_ptr b o → Fits E d
      → Step K 𝓛 (‵ (fobs γ ((Pr E).coded.code d)) ∷ ‵ (fbor κ (Body (mem (Pr E)) rb ro γ)) ∷ ‵ (flft κ q) ∷ Γ) G
      (‵ (values E d b o) ∷ ‵ (cell_at full_share (Pr E).mir (word (block_ptr b o) ∷ []) rb ro) ∷ ‵ (fobor κ q (Body (mem (Pr E)) rb ro γ)) ∷ ‵ (fobs γ u) ∷ ‵ (fauth γ v) ∷ Γ) G
  closed t z d b o rb ro at fit = step (λ s. made E t d b o at fit $ move t (1 ∷ 0 ∷ []) $ closes t z (Pr E) d (word (block_ptr b o) ∷ []) rb ro $ s)

  -- a place that is full has a value, and is one of the places
  pub full : K → (d : el_d E) (i : ℕ) → ((x : el_x E) → get_or d.items i None ≡ Some x → i < length d.items → Seq K 𝓛 Γ G) → Seq K 𝓛 (raw (fact 𝓤 (IsSome (get_or d.items i None))) ∷ Γ) G
  full t d i k = heard t (IsSome (get_or d.items i None)) (λ ok. let found = value_of (get_or d.items i None) ok in k found.0 found.1 (full_inside d.items i found.0 found.1))

  -- [the i-th place; the other places; the word; the open borrow; obs; auth]
  pub opened_at : K → Soaks G → {κ : Lft} {q : Share} {γ : GName} (d : el_d E) (rb ro i : ℕ) (c : Place E) → i < length d.items → get_or d.items i None ≡ c
      → ((b o : ℕ) → d.ptr ≡ block_ptr b o → Fits E d
      → Seq K 𝓛 (‵ (place (R E) b (i * sz E + o) c) ∷ ‵ (Besides E 𝓛 b o d.items i) ∷ ‵ (cell_at full_share (Pr E).mir (word (block_ptr b o) ∷ []) rb ro) ∷ ‵ (fobor κ q (Body (mem (Pr E)) rb ro γ)) ∷ ‵ (fobs γ ((Pr E).coded.code d)) ∷ ‵ (fauth γ ((Pr E).coded.code d)) ∷ Γ) G)
      → Seq K 𝓛 (‵ (fobs γ ((Pr E).coded.code d)) ∷ ‵ (fbor κ (Body (mem (Pr E)) rb ro γ)) ∷ ‵ (flft κ q) ∷ Γ) G
  opened_at t z d rb ro i c inside is k = opened t z d rb ro (λ b o at fit.
      use1 𝓛 (‵ (place (R E) b (i * sz E + o) (get_or d.items i None)) ⊛ ‵ (Besides E 𝓛 b o d.items i)) (place_out E 𝓛 b o d.items i inside) $ split t $
      rewrite t 0 (λ (x : Place E). ‵ (place (R E) b (i * sz E + o) x)) is refl $ k b o at fit)

  -- the i-th place goes back with this in it
  pub closed_at : K → Soaks G → {κ : Lft} {q : Share} {u v : Gv} {γ : GName} (d : el_d E) (b o rb ro i : ℕ) (c : Place E) → i < length d.items → d.ptr ≡ block_ptr b o → Fits E d
      → Step K 𝓛 (‵ (fobs γ ((Pr E).coded.code (with_place E d i c))) ∷ ‵ (fbor κ (Body (mem (Pr E)) rb ro γ)) ∷ ‵ (flft κ q) ∷ Γ) G
      (‵ (place (R E) b (i * sz E + o) c) ∷ ‵ (Besides E 𝓛 b o d.items i) ∷ ‵ (cell_at full_share (Pr E).mir (word (block_ptr b o) ∷ []) rb ro) ∷ ‵ (fobor κ q (Body (mem (Pr E)) rb ro γ)) ∷ ‵ (fobs γ u) ∷ ‵ (fauth γ v) ∷ Γ) G
  closed_at t z d b o rb ro i c inside at fit = step (λ s.
      use2 𝓛 (‵ (values E (with_place E d i c) b o)) (place_in E 𝓛 b o d.items i inside c) $
      closed t z (with_place E d i c) b o rb ro at (subst (λ k. k * sz E < 2 ^ 63) (sym (length-set d.items i c)) fit) $ s)

module _ (E : El) {M : Type 1} {𝓤 : Ura M} (𝓛 : Logic 𝓤) (κ : Lft) where
  pub shown : (d : el_d E) (b o : ℕ) → ent 𝓤 (sem 𝓛 (hidden_shr (Pr E) κ d b o)) (sep 𝓤 (sem 𝓛 (hidden_shr RawPtr κ d.ptr b (o + 0))) (sem 𝓛 (lent (R E) d.ptr d.items κ)))
  shown d b o = qed 𝓛 (‵ (hidden_shr (Pr E) κ d b o) ∷ []) ∵
      use1 𝓛 (‵ (hidden_shr (Words E) κ (d.ptr, tt) b o) ⊛ ‵ (fhide (C.the_lent (R E) d d.ptr κ))) (lent_out 𝓛 (C.struct (R E)) (C.the_codes (el_x E) (R E).coded) (C.the_heap (R E)) (C.the_lent (R E)) κ d b o) $ split ! $
      unhide ! $ fsplit ! $ fsplit ! $ keep ! (0 ∷ 3 ∷ []) $ done !

abbrev pub mark : Val
mark = vstruct (vcons (vstruct vnil) vnil)
