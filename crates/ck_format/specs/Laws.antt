-- How the grammar and the first fault belong together.
use Rattle.std.specs.Prelude.{◌≡◌, ◌↔◌, ℕ, List, None}
use Rattle.ck_format.specs.Script.{Said}
use Rattle.ck_format.specs.Spells.{Spells}
use Rattle.ck_format.specs.FirstFault.{first_fault}

-- bytes have no fault exactly where they are a script
abbrev pub FaultlessIsScript : Type 0
FaultlessIsScript = (bytes : List ℕ) → (first_fault bytes ≡ None) ↔ ((said : Said) × Spells bytes said)

-- bytes are one script at most
abbrev pub IsOneScript : Type 0
IsOneScript = (bytes : List ℕ) (this that : Said) → Spells bytes this → Spells bytes that → this ≡ that
