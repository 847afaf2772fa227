-- What a call through a handle of C's leaves.
use Rattle.std.specs.Prelude.{◌≡◌, ◌⊎◌, ℕ, ◌+◌, ◌-◌, ◌*◌, ◌^◌, Bool, Option, Some, None, Result, IfOk, IfErr, OnOk, if◌then◌else◌, min, nat_eq}
use Rattle.ck_foreign.specs.declared.code.Code.{Code}
use Rattle.ck_foreign.specs.declared.code.Code.TheVariants as codes
use Rattle.ck_refusal.specs.declared.refusal.Busy.{Busy}
use Rattle.ck_refusal.specs.declared.refusal.GrowFault.{GrowFault}
use Rattle.cuckoo_map.specs.Callers.{CallerState, IsSameCaller, Counts, KeepsNotes, StaysAsIs, StaysButDoublings, GrowsFor, IsBusyOnAny, IsBusyOnSome, FindsHeldOfAny, FindsHeldAmong}

-- The handle was open, and its caller c is d after the call, which left this; or it was closed, stays so, and C is told it.
abbrev pub Calls : (CallerState ℕ → CallerState ℕ → Type 0) → Option (CallerState ℕ) → Option (CallerState ℕ) → Code → Type 0
Calls P (Some c) now code = (d : CallerState ℕ) × (now ≡ Some d) × P c d
Calls P None now code = (now ≡ None) × (code ≡ codes.Closed)

-- The same, or there was no memory for the key, and nothing changed.
abbrev pub CallsWithMemory : (CallerState ℕ → CallerState ℕ → Type 0) → Option (CallerState ℕ) → Option (CallerState ℕ) → Code → Type 0
CallsWithMemory P was now code = Calls P was now code ⊎ (now ≡ was) × (code ≡ codes.Memory)

-- the sum, or the greatest number
abbrev pub AddsTo : ℕ → ℕ → ℕ → Type 0
AddsTo more v w = w ≡ min (v + more) (2 ^ 64 - 1)

-- the value becomes this, and the one that it was is told
abbrev pub Replaces : ℕ → ℕ → ℕ × ℕ → Type 0
Replaces value v answer = (answer.0 ≡ value) × (answer.1 ≡ v)

-- the value becomes `to` where it is `from`, and it is told
abbrev pub Swaps : ℕ → ℕ → ℕ → ℕ × ℕ → Type 0
Swaps from to v answer = (answer.0 ≡ if nat_eq v from then to else v) × (answer.1 ≡ v)

-- What a count of all keys leaves of its caller.
pub record CountLeaves (r : Result ℕ Busy) (c d : CallerState ℕ) : Type 0 where
  pub same : IsSameCaller c d
  pub answered : IfOk r (Counts c d)
  pub notes : OnOk r (KeepsNotes c d)
  pub busy : IfErr r (IsBusyOnAny c d)
  pub found : FindsHeldOfAny c d

-- What a look at the power leaves of its caller.
pub record CapacityLeaves (r : Result ℕ Busy) (c d : CallerState ℕ) : Type 0 where
  pub same : IsSameCaller c d
  pub stays : OnOk r (StaysAsIs c d)
  pub told : IfOk r (λ slots. slots ≡ 4 * 2 ^ d.notes.told)
  pub busy : IfErr r (IsBusyOnSome (λ t. t ≡ 0) c d)
  pub found : FindsHeldAmong (λ t. t ≡ 0) c d

-- What growing to so many slots leaves of its caller.
pub record GrowthLeaves (slots : ℕ) (r : Result Bool GrowFault) (c d : CallerState ℕ) : Type 0 where
  pub same : IsSameCaller c d
  pub stays : StaysButDoublings c d
  pub reserved : GrowsFor slots r c d
  pub found : FindsHeldOfAny c d
