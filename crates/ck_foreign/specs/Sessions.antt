-- What C's calls leave of a locked table: of the place where it is, and of the place of its handle.
use Rattle.std.specs.Prelude.{◌≡◌, ◌⊎◌, ℕ, List, Option, Some, None, Result, Ok, Bool}
use Rattle.std.specs.FinMap.{get, len}
use Rattle.std.specs.declared.cmp.Ordering.{Ordering}
use Rattle.ck_model.specs.Promise.{Name}
use Rattle.ck_model.specs.Listing.{ListsInOrder}
use Rattle.ck_model.specs.declared.history.Reply.TheVariants.{Closed}
use Rattle.ck_section.specs.Acts.{Inserts, Assigns, Erases}
use Rattle.ck_foreign.specs.declared.code.Code.{Code}
use Rattle.ck_foreign.specs.declared.code.Code.TheVariants as codes
use Rattle.ck_foreign.specs.Codes.{TellsValue, TellsFresh, TellsOld}
use Rattle.ck_foreign.specs.Openings.{TellsNoPlace}
use Rattle.ck_refusal.specs.declared.refusal.Busy.{Busy}
use Rattle.ck_refusal.specs.declared.refusal.Refused.{Refused}
use Rattle.cuckoo_map.specs.Callers.{CallerState, pass_of, IsSameCaller, Replies, IsBusyOnAny, FindsHeldOfAny}
use Rattle.cuckoo_map.specs.Locking.{LockedState, map_of, session_call, HasLocked, HasChanged, EndsSession, EndsNotes, Clears, LockedInsertionLeaves}

-- The table is locked by the caller, which left the place of its handle: it is where locked tables are.
abbrev pub Locks : CallerState ℕ → Option (CallerState ℕ) → Option (LockedState ℕ) → Code → Type 0
Locks c now is code = (l : LockedState ℕ) × (now ≡ None) × (is ≡ Some l) × HasLocked c.table (pass_of c) l × (code ≡ codes.Done)

-- The caller found a stripe held, and the table is not locked.
abbrev pub FindsHeld : CallerState ℕ → Option (CallerState ℕ) → Option (LockedState ℕ) → Code → Type 0
FindsHeld c now is code = (d : CallerState ℕ) × (busy : Busy) × (now ≡ Some d) × (is ≡ None) × IsSameCaller c d × IsBusyOnAny c d busy × FindsHeldOfAny c d × (code ≡ codes.Busy)

-- What a lock leaves of the place of the handle (was, now) and of the place of the locked table (had, has): there is no handle, or a table is there; else the table was locked, or a stripe was found held, or there was no memory, and both places are as they were.
abbrev pub LocksAt : Option (CallerState ℕ) → Option (CallerState ℕ) → Option (LockedState ℕ) → Option (LockedState ℕ) → Code → Type 0
LocksAt None now had has code = (now ≡ None) × (has ≡ had) × (code ≡ codes.Closed)
LocksAt (Some c) now (Some l) has code = (now ≡ Some c) × (has ≡ Some l) × (code ≡ codes.Open)
LocksAt (Some c) now None has code = Locks c now has code ⊎ (FindsHeld c now has code ⊎ (now ≡ Some c) × (has ≡ None) × (code ≡ codes.Memory))

-- What was done to the table is one entry of its caller, which is the handle again.
abbrev pub Unlocks : LockedState ℕ → Option (LockedState ℕ) → Option (CallerState ℕ) → Code → Type 0
Unlocks l has now code =
    (d : CallerState ℕ) × (has ≡ None) × (now ≡ Some d) × IsSameCaller l.caller d × Replies (session_call l) l.caller d Closed
    × EndsSession l d.client × EndsNotes l d × (code ≡ codes.Done)

-- What an unlock leaves of the place of the locked table (had, has) and of the place of the handle (was, now): there is no table, or a handle is there, and both places are as they were; or it was unlocked. It needs no memory.
abbrev pub UnlocksAt : Option (LockedState ℕ) → Option (LockedState ℕ) → Option (CallerState ℕ) → Option (CallerState ℕ) → Code → Type 0
UnlocksAt None has was now code = (has ≡ None) × (now ≡ was) × (code ≡ codes.Closed)
UnlocksAt (Some l) has (Some c) now code = (has ≡ Some l) × (now ≡ Some c) × (code ≡ codes.Open)
UnlocksAt (Some l) has None now code = Unlocks l has now code

-- The table is locked, and goes from l to m by the call, which left this; or no table is there, it stays so, and C is told it.
abbrev pub OnLocked : (LockedState ℕ → LockedState ℕ → Type 0) → Option (LockedState ℕ) → Option (LockedState ℕ) → Code → Type 0
OnLocked P (Some l) has code = (m : LockedState ℕ) × (has ≡ Some m) × P l m
OnLocked P None has code = (has ≡ None) × (code ≡ codes.Closed)

-- the value of the name is told, and nothing changed
abbrev pub FindsLocked : Name → Code → ℕ → ℕ → LockedState ℕ → LockedState ℕ → Type 0
FindsLocked q code was is l m = (m ≡ l) × TellsValue {A = Busy} (Ok (get (map_of l) q)) code was is

-- the name was bound to the value if it was unbound, or was refused, and the code says which
abbrev pub InsertsLocked : {K : Type 0} → (Name → ℕ) → Name → K → ℕ → Code → LockedState ℕ → LockedState ℕ → Type 0
InsertsLocked {K} hash q key value code l m =
    (r : Result Bool (Refused K ℕ)) × LockedInsertionLeaves (Inserts value) hash q key value r l m × TellsFresh r code

-- the name was bound to the value, and the one that it had is told, or was refused, and the code says which
abbrev pub AssignsLocked : {K : Type 0} → (Name → ℕ) → Name → K → ℕ → Code → ℕ → ℕ → LockedState ℕ → LockedState ℕ → Type 0
AssignsLocked {K} hash q key value code was is l m =
    (r : Result (Option ℕ) (Refused K ℕ)) × LockedInsertionLeaves (Assigns value) hash q key value r l m × TellsOld r code was is

-- the name was unbound, and the value that it had is told
abbrev pub ErasesLocked : Name → Code → ℕ → ℕ → LockedState ℕ → LockedState ℕ → Type 0
ErasesLocked q code was is l m = (o : Option ℕ) × Erases (HasChanged q l m) o × TellsValue {A = Busy} (Ok o) code was is

-- so many names are bound, and nothing changed
abbrev pub CountsLocked : Code → ℕ → LockedState ℕ → LockedState ℕ → Type 0
CountsLocked code count l m = (m ≡ l) × (code ≡ codes.Done) × (count ≡ len (map_of l))

-- all names were unbound
abbrev pub ClearsLocked : Code → LockedState ℕ → LockedState ℕ → Type 0
ClearsLocked code l m = Clears l m × (code ≡ codes.Done)

-- All pairs are the list of its place (was, is), which had none, in rising order; or there is one, or no memory, and it is as it was. Nothing changed in the table.
abbrev pub ListsLocked : {K : Type 0} → (K → Name) → (K → K → Ordering) → Option (List (K × ℕ)) → Option (List (K × ℕ)) → Code → LockedState ℕ → LockedState ℕ → Type 0
ListsLocked {K} name cmp was is code l m =
    (m ≡ l) × (((was ≡ None) × (code ≡ codes.Done) × (pairs : List (K × ℕ)) × (is ≡ Some pairs) × ListsInOrder name cmp pairs (map_of l))
    ⊎ TellsNoPlace was code × (is ≡ was))
