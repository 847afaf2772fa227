-- Places go to another thread where their values may, and a lease where its allocator may.
use Rattle.std.specs.Prelude.{ℕ, ◌+◌, List, [], ◌∷◌, Option, Some, None}
use Rattle.std.specs.Mem.{type_size}
use mir.Syntax.{Ty}
use base.Fraction.{full_share}
use base.Shift.{Keyless}
use denote.RattleType.{RattleType}
use denote.RawPtr.{Ptr, block_ptr, null_ptr, room_for}
use denote.Struct.Struct.{exits_of}
use denote.Struct.Owning.{shape, fields, to}
use denote.Param.Send.{IsSend, IsSync, Common, AllSend, part_keyless, owning_send, struct_send, struct_sync, sendable}
use Rattle.core.specs.declared.alloc.Allocator.{Ghosts}
use Rattle.std_alloc.proofs.SendSync.{FreesAnywhere, quiet}
use Rattle.ck_room.specs.Memory.{row, row_lent, owned, lent}
use Rattle.ck_room.specs.contracts.Places as Places
use Rattle.ck_room.specs.contracts.LeaseOfTwo as LeaseOfTwo

module _ (R : RattleType) where
  row-Keyless : IsSend R → (b o : ℕ) (cs : List (Option R.Denot)) → Keyless (row R b o cs)
  row-Keyless s b o [] = tt
  row-Keyless s b o (Some x ∷ cs) = (part_keyless R s full_share x b o, row-Keyless s b (o + type_size R) cs)
  row-Keyless s b o (None ∷ cs) = (tt, row-Keyless s b (o + type_size R) cs)

  row_lent-Common : IsSync R → (b o : ℕ) (cs : List (Option R.Denot)) → Common (row_lent R b o cs)
  row_lent-Common y b o [] κ = tt
  row_lent-Common y b o (Some x ∷ cs) κ = (y.shared x b o κ, row_lent-Common y b (o + type_size R) cs κ)
  row_lent-Common y b o (None ∷ cs) κ = (tt, row_lent-Common y b (o + type_size R) cs κ)

  owned-Keyless : IsSend R → (p : Ptr) (cs : List (Option R.Denot)) → Keyless (owned R p cs)
  owned-Keyless s (block_ptr b o) cs = (tt, row-Keyless s b o cs)
  owned-Keyless s null_ptr cs = tt

  lent-Common : IsSync R → (p : Ptr) (cs : List (Option R.Denot)) → Common (lent R p cs)
  lent-Common y (block_ptr b o) cs κ = (tt, row_lent-Common y b o cs κ)
  lent-Common y null_ptr cs κ = tt

  pub Places-send : IsSend R → IsSend (Places.the_row R)
  Places-send s =
      let O = Places.the_type R in let all : AllSend (fields O) = (search sendable, tt) in
      owning_send O all (λ d. owned-Keyless s d.ptr d.items) (λ k. quiet (to O) (exits_of k (fields O)) ((struct_send (shape O) all).leaving k))

  pub Places-sync : IsSync R → IsSync (Places.the_row R)
  Places-sync y = let O = Places.the_type R in record { shared = λ d b o κ. ((struct_sync (shape O) (search sendable, tt)).shared (to O d) b o κ, lent-Common y d.ptr d.items κ) }

room-Keyless : (τ : Ty) (p : Ptr) → Keyless (room_for τ p)
room-Keyless τ (block_ptr b o) = tt
room-Keyless τ null_ptr = tt

module _ (R S A : RattleType) (g : Ghosts A.Denot) where
  pub LeaseOfTwo-send : FreesAnywhere A.Denot g → IsSend (LeaseOfTwo.the_row R S A g)
  LeaseOfTwo-send f =
      let O = LeaseOfTwo.the_type R S A g in let all : AllSend (fields O) = (search sendable, tt) in
      owning_send O all (λ d. ((tt, tt), (f.frees d.alloc _ d.first.0, ((room-Keyless _ d.first.0, room-Keyless _ d.second.0), room-Keyless _ d.first.0)))) (λ k. quiet (to O) (exits_of k (fields O)) ((struct_send (shape O) all).leaving k))

  pub LeaseOfTwo-sync : IsSync (LeaseOfTwo.the_row R S A g)
  LeaseOfTwo-sync = let O = LeaseOfTwo.the_type R S A g in record { shared = λ d b o κ. ((struct_sync (shape O) (search sendable, tt)).shared (to O d) b o κ, tt) }
