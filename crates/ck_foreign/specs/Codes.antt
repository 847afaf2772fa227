-- The codes that C is told, and what they say of a call's result.
use Rattle.std.specs.Prelude.{◌≡◌, ◌≢◌, ◌⊎◌, ℕ, ℤ, pos, negsuc, Bool, true, false, Option, Some, None, Result, Ok, Err}
use Rattle.ck_section.specs.declared.two_keys.Renamed.{Renamed}
use Rattle.ck_section.specs.declared.two_keys.Renamed.TheVariants as renamed
use Rattle.ck_foreign.specs.declared.code.Code.{Code}
use Rattle.ck_foreign.specs.declared.code.Code.TheVariants as codes
use Rattle.ck_refusal.specs.declared.refusal.Busy.{Busy}
use Rattle.ck_refusal.specs.declared.refusal.Why.{Why}
use Rattle.ck_refusal.specs.declared.refusal.Why.TheVariants as whys
use Rattle.ck_refusal.specs.declared.refusal.Refused.{Refused}
use Rattle.ck_refusal.specs.declared.refusal.KeysRefused.{KeysRefused}
use Rattle.ck_refusal.specs.declared.refusal.KeysRefused.TheVariants as keys
use Rattle.ck_refusal.specs.declared.refusal.NotRenamed.{NotRenamed}
use Rattle.ck_refusal.specs.declared.refusal.RoomFault.{RoomFault}
use Rattle.ck_refusal.specs.declared.refusal.RoomFault.TheVariants as renames
use Rattle.ck_refusal.specs.declared.refusal.GrowFault.{GrowFault}
use Rattle.ck_refusal.specs.declared.refusal.GrowFault.TheVariants as faults

-- the numbers of the header: an answer is at least 0, a refusal below
abbrev pub number_of : Code → ℤ
number_of codes.Done = pos 0
number_of codes.Absent = pos 1
number_of codes.Present = pos 2
number_of codes.Different = pos 3
number_of codes.Enough = pos 4
number_of codes.Short = pos 5
number_of codes.Busy = negsuc 0
number_of codes.Memory = negsuc 1
number_of codes.Full = negsuc 2
number_of codes.LoadTooLow = negsuc 3
number_of codes.OverMax = negsuc 4
number_of codes.Settings = negsuc 5
number_of codes.TooLong = negsuc 6
number_of codes.Closed = negsuc 7
number_of codes.Open = negsuc 8
number_of codes.Twice = negsuc 9
number_of codes.Count = negsuc 10

abbrev pub code_of_why : Why → Code
code_of_why (whys.Busy t) = codes.Busy
code_of_why whys.Memory = codes.Memory
code_of_why whys.Full = codes.Full
code_of_why whys.LoadTooLow = codes.LoadTooLow

abbrev pub code_of_keys : KeysRefused → Code
code_of_keys (keys.Busy t) = codes.Busy
code_of_keys (keys.Twice i) = codes.Twice

-- why a rename was refused
abbrev pub code_of_rename : RoomFault → Code
code_of_rename (renames.Keys why) = code_of_keys why
code_of_rename (renames.Room why) = code_of_why why

abbrev pub code_of_fault : GrowFault → Code
code_of_fault (faults.Busy t) = codes.Busy
code_of_fault faults.Memory = codes.Memory
code_of_fault faults.OverMax = codes.OverMax

-- the key is bound or not
abbrev pub TellsBound : Result Bool Busy → Code → Type 0
TellsBound (Ok true) code = code ≡ codes.Done
TellsBound (Ok false) code = code ≡ codes.Absent
TellsBound (Err e) code = code ≡ codes.Busy

-- The key is bound to the value at the place, or was, or it is unbound. Where there is no value to tell, the place has what it had.
abbrev pub TellsValue : {A : Type 0} → Result (Option ℕ) A → Code → ℕ → ℕ → Type 0
TellsValue (Ok (Some v)) code was is = (code ≡ codes.Done) × (is ≡ v)
TellsValue (Ok None) code was is = (code ≡ codes.Absent) × (is ≡ was)
TellsValue (Err e) code was is = (code ≡ codes.Busy) × (is ≡ was)

-- the key was unbound, or bound before, or the insertion was refused
abbrev pub TellsFresh : {K X : Type 0} → Result Bool (Refused K X) → Code → Type 0
TellsFresh (Ok true) code = code ≡ codes.Done
TellsFresh (Ok false) code = code ≡ codes.Present
TellsFresh (Err e) code = code ≡ code_of_why e.why

-- the same, with the value that the key had
abbrev pub TellsOld : {K X : Type 0} → Result (Option ℕ) (Refused K X) → Code → ℕ → ℕ → Type 0
TellsOld (Ok None) code was is = (code ≡ codes.Done) × (is ≡ was)
TellsOld (Ok (Some v)) code was is = (code ≡ codes.Present) × (is ≡ v)
TellsOld (Err e) code was is = (code ≡ code_of_why e.why) × (is ≡ was)

-- The key had the value at the place, and has been bound to another where that is what was asked for.
abbrev pub TellsSeen : ℕ → Result (Option ℕ) Busy → Code → ℕ → ℕ → Type 0
TellsSeen from (Ok (Some v)) code was is = ((code ≡ codes.Done) × (v ≡ from) ⊎ (code ≡ codes.Different) × (v ≢ from)) × (is ≡ v)
TellsSeen from (Ok None) code was is = (code ≡ codes.Absent) × (is ≡ was)
TellsSeen from (Err e) code was is = (code ≡ codes.Busy) × (is ≡ was)

-- the key was bound to what was asked for, to something else, or unbound
abbrev pub TellsMatch : Result (Option Bool) Busy → Code → Type 0
TellsMatch (Ok (Some true)) code = code ≡ codes.Done
TellsMatch (Ok (Some false)) code = code ≡ codes.Different
TellsMatch (Ok None) code = code ≡ codes.Absent
TellsMatch (Err e) code = code ≡ codes.Busy

-- so many there are
abbrev pub TellsCount : Result ℕ Busy → Code → ℕ → ℕ → Type 0
TellsCount (Ok n) code was is = (code ≡ codes.Done) × (is ≡ n)
TellsCount (Err e) code was is = (code ≡ codes.Busy) × (is ≡ was)

-- whether the table had fewer slots
abbrev pub TellsGrown : Result Bool GrowFault → Code → Type 0
TellsGrown (Ok true) code = code ≡ codes.Done
TellsGrown (Ok false) code = code ≡ codes.Enough
TellsGrown (Err e) code = code ≡ code_of_fault e

-- a call on several keys was done, or refused
abbrev pub TellsDone : Result (Unit {0}) KeysRefused → Code → Type 0
TellsDone (Ok x) code = code ≡ codes.Done
TellsDone (Err e) code = code ≡ code_of_keys e

-- it was done, or declined so, or a key was unbound, or it was refused
abbrev pub TellsChange : Code → Result (Option Bool) KeysRefused → Code → Type 0
TellsChange declined (Ok (Some true)) code = code ≡ codes.Done
TellsChange declined (Ok (Some false)) code = code ≡ declined
TellsChange declined (Ok None) code = code ≡ codes.Absent
TellsChange declined (Err e) code = code ≡ code_of_keys e

-- the second key has the value of the first, which is unbound; or the first was unbound, or both were bound; or it was refused
abbrev pub TellsRenamed : {K : Type 0} → Result Renamed (NotRenamed K) → Code → Type 0
TellsRenamed (Ok renamed.Done) code = code ≡ codes.Done
TellsRenamed (Ok renamed.Unbound) code = code ≡ codes.Absent
TellsRenamed (Ok renamed.Occupied) code = code ≡ codes.Present
TellsRenamed (Err e) code = code ≡ code_of_rename e.why

-- C is told the number of a code that says so
abbrev pub Numbered : ℤ → (Code → Type 0) → Type 0
Numbered n P = (code : Code) × (n ≡ number_of code) × P code
