-- What was read of a source.
use Rattle.std.proofs.Common.{◌≡◌, ℕ, ◌<◌, ◌≤◌, List, [], ◌++◌, Option, Some, None, Result, Ok, Err, sym, ap, subst, ◌∙◌, append_assoc, arith}
use Rattle.std.specs.Prelude.{IfErr, IfOk, IfSome}
use Rattle.std.specs.Io.KnownBytes.{Consumes, Keeps, IsAtEnd}
use Rattle.std.proofs.KnownBytes.{Consumes-trans, Consumes-kept}
use Rattle.std.proofs.lemmas.List.{append-nil}
use Rattle.ck_format.specs.declared.script.Script.{Script}
use Rattle.ck_format.specs.declared.script.What.TheVariants as is
use Rattle.ck_format.specs.declared.script.ScriptFault.{ScriptFault}
use Rattle.ck_format.specs.declared.reader.ScriptReader.{ScriptReader}
use Rattle.ck_format.specs.Script.{OnTextFault, said_of, fault_at}
use Rattle.ck_format.specs.Lines.{IsLine}
use Rattle.ck_format.specs.Spells.{Spells}
use Rattle.ck_format.specs.FirstFault.{first_fault, IsCutIn, StopsIn}
use Rattle.ck_format.specs.State.{State, Header, Setting as Settings, Block, After, parse_state, lines_to, AreFew}
use Rattle.ck_format.specs.Taken.{HasTakenLines, IsWithinLimits, FaultOf, StopsWithin, size_of}
use Rattle.ck_format.proofs.SettingLaws.{count_most}
use Rattle.ck_format.proofs.Reading.{Takes, ends_here, on_text_fault-map, on_text_fault-any}

-- the reader took the bytes that the source gave
pub record HasRead (before : Option (List ℕ)) (r : ScriptReader) (now : Option (List ℕ)) : Type 0 where
  pub bytes : List ℕ
  pub given : Consumes before now bytes
  pub taken : HasTakenLines r bytes

-- a block more
pub read_more : (before between now : Option (List ℕ)) (r s : ScriptReader) (block : List ℕ) → HasRead before r between → Consumes between now block → Takes r block s → HasRead before s now
read_more before between now r s block read given takes = record {
  bytes = read.bytes ++ block;
  given = Consumes-trans before between now read.bytes block read.given given;
  taken = takes read.bytes read.taken;
}

-- the read that failed took nothing
pub cut_in : (before between now : Option (List ℕ)) (r : ScriptReader) (n : ℕ) → IsLine r.front.items → n ≡ r.place.number → HasRead before r between → Keeps between now → IsCutIn before now n
cut_in before between now r n front here read keeps =
    (read.bytes, Consumes-kept before between now read.bytes read.given keeps, ends_here r read.bytes read.taken front n here)

-- the bytes in front of where the reader stopped end in its line
pub stops_in : (before between now : Option (List ℕ)) (r : ScriptReader) (block : List ℕ) (n : ℕ) → HasRead before r between → Consumes between now block → StopsWithin r block n → StopsIn before now n
stops_in before between now r block n read given stops =
    let s = stops read.bytes read.taken in
    let regrouped : read.bytes ++ block ≡ (read.bytes ++ s.0) ++ s.1 = ap (λ (xs : List ℕ). read.bytes ++ xs) s.2 ∙ sym (append_assoc read.bytes s.0 s.1) in
    record {
      front = read.bytes ++ s.0;
      rest = s.1;
      given = subst (Consumes before now) regrouped (Consumes-trans before between now read.bytes block read.given given);
      ends = s.3;
    }

-- a fault within a block
pub block_fault : (before between now : Option (List ℕ)) (r : ScriptReader) (block : List ℕ) (e : ScriptFault) → HasRead before r between → Consumes between now block → FaultOf r block e
    → IfSome before (λ bytes. OnTextFault e.what (first_fault bytes ≡ Some e))
block_fault None between now r block e read given fault = tt
block_fault (Some bytes) between None r block e read given fault = absurd (Consumes-trans (Some bytes) between None read.bytes block read.given given)
block_fault (Some bytes) between (Some left) r block e read given fault =
    let whole : bytes ≡ (read.bytes ++ block) ++ left = Consumes-trans (Some bytes) between (Some left) read.bytes block read.given given in
    on_text_fault-map e.what (λ h. ap first_fault whole ∙ h) (fault read.bytes read.taken left)

lines_most : (s : State) → AreFew s → lines_to s ≤ 1001034
lines_most Header few = omega arith
lines_most (Settings g) few = let most = count_most g in omega arith
lines_most (Block b) few = let workers = few.0 in let commands = few.1 in omega arith
lines_most (After said) few = omega arith

pub size_most : (r : ScriptReader) → IsWithinLimits r → size_of r < 201208036
size_most r limits =
    let number = limits.place.number in
    let most = lines_most (parse_state r.place.stage) limits.place.few in
    let short = limits.front.short in
    omega arith

abbrev Spelled : Option (List ℕ) → Script → Type 0
Spelled before s = IfSome before (λ bytes. Spells bytes (said_of s))

abbrev pub FirstOf : Option (List ℕ) → ScriptFault → Type 0
FirstOf before e = IfSome before (λ bytes. OnTextFault e.what (first_fault bytes ≡ Some e))

-- where nothing is left, the bytes that were read are all
end_taken : (before between now : Option (List ℕ)) (r : ScriptReader) (none : List ℕ) → none ≡ [] → HasRead before r between → Consumes between now none → IsAtEnd now → IfSome before (λ bytes. HasTakenLines r bytes)
end_taken None between now r none empty read given at_end = tt
end_taken (Some bytes) between None r none empty read given at_end = absurd (Consumes-trans (Some bytes) between None read.bytes none read.given given)
end_taken (Some bytes) between (Some left) r none empty read given at_end =
    let whole : bytes ≡ (read.bytes ++ none) ++ left = Consumes-trans (Some bytes) between (Some left) read.bytes none read.given given in
    subst (HasTakenLines r) (sym (whole ∙ ap (λ (xs : List ℕ). (read.bytes ++ xs) ++ left) empty ∙ ap (λ (xs : List ℕ). (read.bytes ++ []) ++ xs) at_end ∙ append-nil (read.bytes ++ []) ∙ append-nil read.bytes)) read.taken

script_spelled : (before : Option (List ℕ)) (r : ScriptReader) (s : Script) → IfSome before (λ bytes. HasTakenLines r bytes) → ((bytes : List ℕ) → HasTakenLines r bytes → Spells bytes (said_of s)) → Spelled before s
script_spelled None r s taken spells = tt
script_spelled (Some bytes) r s taken spells = spells bytes taken

fault_first : (before : Option (List ℕ)) (r : ScriptReader) (e : ScriptFault) → IfSome before (λ bytes. HasTakenLines r bytes) → ((bytes : List ℕ) → HasTakenLines r bytes → first_fault bytes ≡ Some e) → FirstOf before e
fault_first None r e taken fault = tt
fault_first (Some bytes) r e taken fault = on_text_fault-any e.what (fault bytes taken)

module _ (before between now : Option (List ℕ)) (r : ScriptReader) (none : List ℕ) (empty : none ≡ []) (read : HasRead before r between) (given : Consumes between now none) (at_end : IsAtEnd now) where
  pub end_spelled : (result : Result Script ScriptFault) → IfOk result (λ s. (bytes : List ℕ) → HasTakenLines r bytes → Spells bytes (said_of s)) → IfOk result (Spelled before)
  end_spelled (Ok s) h = script_spelled before r s (end_taken before between now r none empty read given at_end) h
  end_spelled (Err e) h = tt

  pub end_fault_of : (result : Result Script ScriptFault) → IfErr result (λ e. (bytes : List ℕ) → HasTakenLines r bytes → first_fault bytes ≡ Some e) → IfErr result (FirstOf before)
  end_fault_of (Ok s) h = tt
  end_fault_of (Err e) h = fault_first before r e (end_taken before between now r none empty read given at_end) h

-- a failed read is no fault of the text
pub fault_read : (before : Option (List ℕ)) (e : ScriptFault) (line : ℕ) → e ≡ fault_at line is.Read → FirstOf before e
fault_read None e line same = tt
fault_read (Some bytes) e line same = subst (λ (f : ScriptFault). OnTextFault f.what (first_fault bytes ≡ Some f)) (sym same) tt

-- the same in the order of the public clauses
pub spelled_of : (before : Option (List ℕ)) (result : Result Script ScriptFault) → IfOk result (Spelled before) → IfSome before (λ bytes. IfOk result (λ s. Spells bytes (said_of s)))
spelled_of None result h = tt
spelled_of (Some bytes) (Ok s) h = h
spelled_of (Some bytes) (Err e) h = tt

pub fault_of : (before : Option (List ℕ)) (result : Result Script ScriptFault) → IfErr result (FirstOf before) → IfSome before (λ bytes. IfErr result (λ e. OnTextFault e.what (first_fault bytes ≡ Some e)))
fault_of None result h = tt
fault_of (Some bytes) (Ok s) h = tt
fault_of (Some bytes) (Err e) h = h
