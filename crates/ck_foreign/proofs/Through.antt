-- A call through a handle, from what was taken out of it to what was put back.
use Rattle.std.proofs.Common.{◌≡◌, ℕ, Option, Some, sym, subst}
use Rattle.cuckoo_map.specs.Callers.{CallerState}
use Rattle.ck_foreign.specs.declared.code.Code.{Code}
use Rattle.ck_foreign.specs.Handles.{Calls}

-- the caller x was taken out, and y was put back, which the call left of x
pub through : (P : CallerState ℕ → CallerState ℕ → Type 0) (was now : Option (CallerState ℕ)) (code : Code) (x y : CallerState ℕ) → was ≡ Some x → now ≡ Some y → P x y → Calls P was now code
through P was now code x y took put left = subst (λ o. Calls P o now code) (sym took) (y, put, left)
