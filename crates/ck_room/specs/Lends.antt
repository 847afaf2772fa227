-- What places hold once a `&mut` into them has ended.
use Rattle.std.specs.Prelude.{ℕ, Some, slice_set}
use Rattle.std.specs.Borrow.{Fml, RattleType, MutBor, Lends}
use mathlib.Core.Path.{sym, ◌∙◌}
use lib.ListN.{length-set}
use Rattle.ck_room.specs.declared.Places.{Places}
use Rattle.ck_room.specs.contracts.Places.{the_row}

-- the same block, with this value in place i
abbrev pub with_value : {X : Type 0} → Places X → ℕ → X → Places X
with_value it i x = record { ptr = it.ptr; len = it.len; items = slice_set it.items i (Some x); counted = it.counted ∙ sym (length-set it.items i (Some x)) }

abbrev pub LendsPlace : (R : RattleType) → MutBor (Places R.Denot) → ℕ → MutBor R.Denot → Fml
LendsPlace R places i r = Lends (the_row R) R places r (with_value places.now i)
