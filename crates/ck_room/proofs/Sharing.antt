-- A `&` to the places is made where one to a value is.
use Prim.Native.Nat.{ℕ, ◌+◌}
use Rattle.std.specs.Prelude.{List, [], ◌∷◌, Option, Some, None}
use Rattle.std.specs.Mem.{type_size}
use seplogic.Ra.Ura.{Ura}
use base.Fml.{Incl, ftrue, ffalse}
use base.Fml.{Lft}
use types.Logic.{Logic}
use denote.RattleType.{RattleType, RowLaws}
use denote.Param.Laws.{Laws}
use denote.RawPtr.{Ptr, block_ptr, null_ptr}
use denote.Sharing.{ShrLaws, said}
use denote.SharingLaws.{beside_shr_laws, nothing_shr_laws, said_shr_laws}
use denote.Shares.{Shares-less}
use denote.Struct.Lending.{Lends, Lends-both, Lends-nothing, Lends-said, Lends-false}
use Rattle.ck_room.specs.Memory.{place, row, place_lent, row_lent, fit, owned, lent}

module _ (R : RattleType) (L : RowLaws R) where
  place_lent_laws : (b o : ℕ) (c : Option R.Denot) → ShrLaws (place_lent R b o c)
  place_lent_laws b o (Some x) = L x b o
  place_lent_laws b o None = nothing_shr_laws

  row_lent_laws : (b o : ℕ) (cs : List (Option R.Denot)) → ShrLaws (row_lent R b o cs)
  row_lent_laws b o [] = nothing_shr_laws
  row_lent_laws b o (c ∷ cs) = beside_shr_laws _ _ (place_lent_laws b o c) (row_lent_laws b (o + type_size R) cs)

  pub lent_laws : (p : Ptr) (cs : List (Option R.Denot)) → ShrLaws (lent R p cs)
  lent_laws (block_ptr b o) cs = beside_shr_laws _ _ (said_shr_laws (fit R cs) tt) (row_lent_laws b o cs)
  lent_laws null_ptr cs = said_shr_laws ffalse tt

module _ {M : Type 1} {𝓤 : Ura M} (𝓛 : Logic 𝓤) (l : Lft) (R : RattleType) (L : Laws R) (inc : Incl l R.lives) where
  Lends-place : (b o : ℕ) (c : Option R.Denot) → Lends 𝓛 (place R b o c) (place_lent R b o c) l
  Lends-place b o (Some x) = λ κ ts. Shares-less 𝓛 R R.lives l inc (L.shares 𝓛) x κ ts b o
  Lends-place b o None = Lends-nothing 𝓛 (place R b o None) l

  Lends-row : (b o : ℕ) (cs : List (Option R.Denot)) → Lends 𝓛 (row R b o cs) (row_lent R b o cs) l
  Lends-row b o [] = Lends-nothing 𝓛 ftrue l
  Lends-row b o (c ∷ cs) =
      Lends-both 𝓛 (place R b o c) (row R b (o + type_size R) cs) (place_lent R b o c) (row_lent R b (o + type_size R) cs) l (Lends-place b o c) (Lends-row b (o + type_size R) cs)

  pub Lends-owned : (p : Ptr) (cs : List (Option R.Denot)) → Lends 𝓛 (owned R p cs) (lent R p cs) l
  Lends-owned (block_ptr b o) cs = Lends-both 𝓛 (fit R cs) (row R b o cs) (said (fit R cs)) (row_lent R b o cs) l (Lends-said 𝓛 (fit R cs) tt l) (Lends-row b o cs)
  Lends-owned null_ptr cs = Lends-false 𝓛 (said ffalse) l
