-- What the reader keeps of the bytes that it took. Only private contracts and proofs need this file.
use Rattle.std.specs.Prelude.{◌≡◌, ℕ, ◌+◌, ◌*◌, ◌≤◌, List, ◌++◌, length, Some, flat_map}
use Rattle.ck_format.specs.declared.script.ScriptFault.{ScriptFault}
use Rattle.ck_format.specs.declared.reader.Place.{Place}
use Rattle.ck_format.specs.declared.reader.ScriptReader.{ScriptReader}
use Rattle.ck_format.specs.Script.{OnTextFault}
use Rattle.ck_format.specs.Lines.{IsLine, with_feed}
use Rattle.ck_format.specs.FirstFault.{first_fault, EndsIn}
use Rattle.ck_format.specs.State.{parse_state, lines_to, AreFew}
use Rattle.ck_format.specs.Stands.{AreRead}

-- where it stands behind these lines
pub record StandsBehind (place : Place) (lines : List (List ℕ)) : Type 0 where
  pub read : AreRead (parse_state place.stage) lines
  pub number : place.number ≡ length lines + 1

-- its line is within what a script may have
pub record IsInScript (place : Place) : Type 0 where
  pub number : place.number ≤ lines_to (parse_state place.stage)
  pub few : AreFew (parse_state place.stage)

-- the same, and of the front of a line
pub record IsWithinLimits (r : ScriptReader) : Type 0 where
  pub place : IsInScript r.place
  pub front : IsLine r.front.items

-- the bytes are lines and the front of a line
pub record HasTakenLines (r : ScriptReader) (bytes : List ℕ) : Type 0 where
  pub lines : List (List ℕ)
  pub whole : bytes ≡ flat_map with_feed lines ++ r.front.items
  pub stands : StandsBehind r.place lines

-- at least as many as the bytes that were taken
abbrev pub size_of : ScriptReader → ℕ
size_of r = 201 * r.place.number + length r.front.items

-- behind what the reader took, these bytes have this fault first, whatever follows them
abbrev pub FaultOf : ScriptReader → List ℕ → ScriptFault → Type 0
FaultOf r piece e = (bytes : List ℕ) → HasTakenLines r bytes → (more : List ℕ) → OnTextFault e.what (first_fault ((bytes ++ piece) ++ more) ≡ Some e)

-- behind what the reader took, some of these bytes are read and end in this line
abbrev pub StopsWithin : ScriptReader → List ℕ → ℕ → Type 0
StopsWithin r piece line = (bytes : List ℕ) → HasTakenLines r bytes → (front : List ℕ) × (rest : List ℕ) × (piece ≡ front ++ rest) × EndsIn (bytes ++ front) line
