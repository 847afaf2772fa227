-- A piece of the bytes that a sink took behind what it had taken before.
use Rattle.std.proofs.Common.{◌≡◌, ◌↔◌, ℕ, ◌+◌, ◌<◌, Bool, true, false, IsTrue, List, take, drop, Option, sym, subst, refl, arith}
use Rattle.std.proofs.Math.Seq.{take-add}
use Rattle.std.proofs.KnownBytes.{Appends-trans}
use Rattle.std.specs.Io.KnownBytes.{Appends}

pub Appends-more : (first second third : Option (List ℕ)) (bytes : List ℕ) (i n : ℕ) → Appends first second (take i bytes) → Appends second third (take n (drop i bytes)) → Appends first third (take (i + n) bytes)
Appends-more first second third bytes i n before now =
    subst (Appends first third) (sym (take-add i n bytes)) (Appends-trans first second third (take i bytes) (take n (drop i bytes)) before now)

-- a write that took some bytes has not failed
pub works_on : (has_failed : Bool) (n m : ℕ) → (IsTrue has_failed ↔ ((n ≡ 0) × (0 < m))) → 0 < n → has_failed ≡ false
works_on true n m h some = let none = (h.0 refl).0 in absurd (omega arith)
works_on false n m h some = refl
