-- What a run leaves of the sink that it writes to.
use Rattle.std.specs.Prelude.{◌≡◌, ℕ, ◌<◌, List, Option, Bool, true, false, length, take}
use Rattle.std.specs.Io.KnownBytes.{Appends}
use Rattle.ck_format.specs.declared.script.Script.{Script}
use Rattle.ck_script.specs.declared.runner.RunFault.{RunFault}
use Rattle.ck_script.specs.declared.runner.RunFault.TheVariants.{Memory, Write}
use Rattle.ck_format.specs.Script.{said_of}
use Rattle.ck_script.specs.Output.{IsOutputOf}

-- the sink took a text that belongs to the script
abbrev pub TakesOutput : Script → Option (List ℕ) → Option (List ℕ) → Type 0
TakesOutput script before after = (out : List ℕ) × IsOutputOf (said_of script) out × Appends before after out

-- with this fault the sink took nothing, or it failed and took the first bytes of such a text
abbrev pub StopsBy : Script → RunFault → Option (List ℕ) → Option (List ℕ) → Bool → Type 0
StopsBy script Memory before after failed = (after ≡ before) × (failed ≡ false)
StopsBy script (Write written) before after failed =
    (failed ≡ true) × ((out : List ℕ) × IsOutputOf (said_of script) out × (written < length out) × Appends before after (take written out))
