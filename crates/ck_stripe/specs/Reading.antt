-- What a closure makes of the value in a slot.
use Rattle.std.specs.Prelude.{◌≡◌, Some}
use Rattle.std.specs.Borrow.{Bor}
use Rattle.std.specs.Fn.{Once, FnOnceReturnsAt}
use Rattle.ck_model.specs.Promise.{Name}
use Rattle.ck_model.specs.Slots.{Slot}

-- the slot has a value, and the closure answers this for it
pub record ReadsSlot {F V R : Type 0} (g : Once F (Bor V × Unit {0}) R) (f : F) (slot : Slot V) (r : R) : Type 0 where
  pub name : Name
  pub value : V
  pub there : slot ≡ Some (name, value)
  pub says : FnOnceReturnsAt g f value r
