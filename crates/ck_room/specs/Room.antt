-- Words on places and on the right to free their block.
use Rattle.std.specs.Prelude.{◌≡◌, ℕ, List, Option, None, slice_index_or}
use denote.RawPtr.{Ptr}
use Rattle.ck_room.specs.declared.Places.{Places}
use Rattle.ck_room.specs.declared.LeaseOfTwo.{LeaseOfTwo}

-- a block: where it begins, and how many places it has
abbrev pub Block : Type 0
Block = Ptr × ℕ

-- every place is empty
abbrev pub AllNone : {X : Type 0} → List (Option X) → Type 0
AllNone items = (i : ℕ) → slice_index_or items i None ≡ None

module _ {X : Type 0} where
  -- what the places hold, from the first on
  abbrev pub items_of : Places X → List (Option X)
  items_of it = it.items

  abbrev pub block_of : Places X → Block
  block_of it = (it.ptr, it.len)

-- the lease is of the block of these two rows of places, and of this allocator
pub record IsLeaseOfTwo {X Y Z : Type 0} (lease : LeaseOfTwo X Y Z) (places : Places X) (heads : Places Y) (alloc : Z) : Type 0 where
  pub block : lease.first ≡ block_of places
  pub behind : lease.second ≡ block_of heads
  pub allocator : lease.alloc ≡ alloc
