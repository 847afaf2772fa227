-- The rows of a block of two kinds of places, and a lease of it taken apart and made.
use mathlib.Core.Path.{◌≡◌, refl, subst}
use mathlib.Core.List.{List, [], ◌∷◌, ◌++◌}
use seplogic.Ra.Ura.{Ura}
use mir.Syntax.{Args, a_type, dcons, dnil}
use mir.Val.{Val, vstruct, vnil, of_list}
use base.Logic.{ent, emp}
use types.Logic.{Logic, sem}
use types.Kit.{Goal, Seq, Item, ‵, ◌$◌, drop, fsplit, fpick, feq_l}
use denote.RattleType.{RattleType}
use denote.Param.{param, bounded}
use denote.Shadow.{makes_shadow}
use denote.Struct.Struct.{Struct}
use denote.Struct.Owning.{shape}
use Rattle.core.proofs.mem.Param.{El, R}
use Rattle.core.proofs.alloc.Calls.{Al, token}
use Rattle.ck_room.specs.Memory.{leased_two}
use Rattle.ck_room.specs.contracts.Places as C
use Rattle.ck_room.specs.contracts.LeaseOfTwo as L
use Rattle.ck_room.proofs.Steps.{mark}

module _ (E S : El) (Z : Al) where
  abbrev pub args : Args
  args = bounded (a_type ∷ a_type ∷ a_type ∷ []) (E.row, (S.row, (Z.row, tt))) (dcons Z.d (dcons Z.drops dnil))

  -- the second kind
  abbrev pub RS : RattleType
  RS = param 1 S.row

  abbrev pub Hr : RattleType
  Hr = C.the_row RS

  -- the allocator
  abbrev pub RZ : RattleType
  RZ = param 2 Z.row

  abbrev pub Lr : RattleType
  Lr = L.the_row (R E) RS RZ Z.g

  abbrev pub Mark : RattleType
  Mark = Struct (shape (L.the_type (R E) RS RZ Z.g))

  pub marked : {M : Type 1} {𝓤 : Ura M} (𝓛 : Logic 𝓤) → ent 𝓤 (emp 𝓤) (sem 𝓛 (Mark.own_val (tt, tt) (mark ∷ [])))
  marked 𝓛 = makes_shadow 𝓛 (Mark.own_val (tt, tt) (mark ∷ [])) (λ vss. (tt, ((λ uss. (tt, tt)), tt))) ((vstruct vnil ∷ [], tt), (refl, ((tt, (refl, tt)), tt)))

module _ (E S : El) (Z : Al) {M : Type 1} {𝓤 : Ura M} {𝓛 : Logic 𝓤} {K : Type 0} {Γ : List (Item 𝓤)} {G : Goal 𝓤 𝓛.H} where
  pub lease_had : K → (d : (Lr E S Z).Denot) (vs : List Val)
      → (vs ≡ mark ∷ [] → Seq K 𝓛 (‵ (leased_two (token Z d.alloc) (R E) (RS E S Z) d.first d.second) ∷ Γ) G) → Seq K 𝓛 (‵ ((Lr E S Z).own_val d vs) ∷ Γ) G
  lease_had t d vs k = fsplit t $ fpick t (λ vss. fsplit t $ feq_l t (λ ev. fsplit t $ fpick t (λ uss. fsplit t $ feq_l t (λ e. drop t $ drop t $
      k (subst (λ (ws : List Val). vs ≡ vstruct (of_list (ws ++ [])) ∷ []) e ev)))))
