-- What stands at a pointer that may be null: nothing, or a box.
use mir.Syntax.{Ty}
use base.Fml.{Fml, ftrue, fex}
use denote.RattleType.{RattleType}
use denote.RawPtr.{Ptr, null_ptr}
use Rattle.std.specs.Prelude.{◌≡◌}
use Rattle.std.specs.declared.option.Option.{Option}
use Rattle.std.specs.declared.option.Option.TheVariants.{None, Some}
use Rattle.std.specs.declared.alloc.Global.{Global}
use Rattle.std.specs.contracts.impls.GlobalAllocator.TheImpl.{ghosts}
use Rattle.std.specs.Box.Ownership.{box_owns}

-- the right to free the block of the type that starts at p. It is the same for each handle to the heap
abbrev pub frees : Ty → Ptr → Fml
frees type p = fex Global (λ heap. ghosts.dealloc_token heap type p)

abbrev pub place_owns : (R : RattleType) → Ptr → Option R.Denot → Fml
place_owns R p None = fex (p ≡ null_ptr) (λ _. ftrue)
place_owns R p (Some x) = box_owns frees R p x
