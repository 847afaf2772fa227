-- How a table is opened, and what a call on the whole table leaves of the place of its handle.
use Rattle.std.specs.Prelude.{◌≡◌, ◌⊎◌, ℕ, List, [], Option, Some, None, Result, Ok, Err, OnOk, IfOk, IfErr, MatchResult}
use Rattle.std.specs.FinMap.{entries}
use Rattle.std.specs.declared.cmp.Ordering.{Ordering}
use Rattle.ck_model.specs.declared.settings.Settings.{Settings}
use Rattle.ck_model.specs.Ranges.{AreInRange}
use Rattle.ck_model.specs.Promise.{Name, Map}
use Rattle.ck_model.specs.Listing.{ListsInOrder}
use Rattle.ck_model.specs.declared.history.Call.TheVariants.{Session}
use Rattle.ck_model.specs.declared.history.Reply.TheVariants.{Closed}
use Rattle.ck_foreign.specs.declared.code.Code.{Code}
use Rattle.ck_foreign.specs.declared.code.Code.TheVariants as codes
use Rattle.ck_refusal.specs.declared.refusal.Busy.{Busy}
use Rattle.ck_refusal.specs.declared.refusal.DrainFault.{DrainFault}
use Rattle.ck_refusal.specs.declared.refusal.DrainFault.TheVariants as faults
use Rattle.cuckoo_map.specs.Callers.{CallerState, IsSameCaller, KeepsNotes, Replies, IsBusyOnAny, FindsHeldOfAny, IsNotDrained}

-- A table with these settings can be opened in so many places.
pub record CanOpen (settings : Settings) (count : ℕ) : Type 0 where
  pub callers : settings.callers ≡ count
  pub range : AreInRange settings

-- Whether a table was opened in so many places, which were closed or not, and why it was not.
abbrev pub TellsOpening : Settings → ℕ → Type 0 → Code → Type 0
TellsOpening settings count closed codes.Done = CanOpen settings count × closed
TellsOpening settings count closed codes.Memory = CanOpen settings count × closed
TellsOpening settings count closed codes.Open = CanOpen settings count × ¬ closed
TellsOpening settings count closed codes.Settings = ¬ CanOpen settings count
TellsOpening settings count closed code = ⊥

-- all names were unbound in one session
abbrev pub Empties : CallerState ℕ → CallerState ℕ → Type 0
Empties c d = (m : Map ℕ) × Replies (Session (entries m) []) c d Closed

-- What unbinding all keys leaves of its caller: one session, or a stripe was busy.
pub record ClearLeaves (r : Result (Unit {0}) Busy) (c d : CallerState ℕ) : Type 0 where
  pub same : IsSameCaller c d
  pub cleared : OnOk r (Empties c d)
  pub notes : OnOk r (KeepsNotes c d)
  pub busy : IfErr r (IsBusyOnAny c d)
  pub found : FindsHeldOfAny c d

-- it was done, or a stripe was busy
abbrev pub TellsCleared : Result (Unit {0}) Busy → Code → Type 0
TellsCleared (Ok u) code = code ≡ codes.Done
TellsCleared (Err e) code = code ≡ codes.Busy

-- all pairs of the map were told in one session, which changed nothing
abbrev pub Exports : {K : Type 0} → (K → Name) → (K → K → Ordering) → CallerState ℕ → CallerState ℕ → List (K × ℕ) → Type 0
Exports name cmp c d pairs = (m : Map ℕ) × ListsInOrder name cmp pairs m × Replies (Session (entries m) (entries m)) c d Closed

-- What an export or a drain leaves of its caller: it lists so, or a stripe was busy, or there was no memory for the list.
pub record ListLeaves {K : Type 0} (lists : CallerState ℕ → CallerState ℕ → List (K × ℕ) → Type 0) (r : Result (List (K × ℕ)) DrainFault) (c d : CallerState ℕ) : Type 0 where
  pub same : IsSameCaller c d
  pub listed : IfOk r (lists c d)
  pub refused : IfErr r (IsNotDrained c d)
  pub notes : MatchResult r (λ pairs. KeepsNotes c d) (λ why. why ≡ faults.Memory → KeepsNotes c d)
  pub found : FindsHeldOfAny c d

-- the list is at its place, or a stripe was busy, or there was no memory for the list
abbrev pub TellsList : {K : Type 0} → Result (List (K × ℕ)) DrainFault → Code → Option (List (K × ℕ)) → Option (List (K × ℕ)) → Type 0
TellsList (Ok pairs) code was is = (code ≡ codes.Done) × (is ≡ Some pairs)
TellsList (Err (faults.Busy t)) code was is = (code ≡ codes.Busy) × (is ≡ was)
TellsList (Err faults.Memory) code was is = (code ≡ codes.Memory) × (is ≡ was)

-- why no list can come to the place: it has one, or there is no memory for its box
abbrev pub TellsNoPlace : {K : Type 0} → Option (List (K × ℕ)) → Code → Type 0
TellsNoPlace (Some pairs) code = code ≡ codes.Open
TellsNoPlace None code = code ≡ codes.Memory

-- why there was no session: the handle is closed, or no list can come to its place
abbrev pub TellsNoSession : {T K : Type 0} → Option T → Option (List (K × ℕ)) → Code → Type 0
TellsNoSession (Some handle) list code = TellsNoPlace list code
TellsNoSession None list code = code ≡ codes.Closed

-- The place of the list is as it was, as is the caller, since no list can come there; or the list was asked for, and that is what was left and told.
abbrev pub ListsAt : {K : Type 0} → (CallerState ℕ → CallerState ℕ → List (K × ℕ) → Type 0) → Option (List (K × ℕ)) → Option (List (K × ℕ)) → CallerState ℕ → CallerState ℕ → Code → Type 0
ListsAt {K} lists was is c d told =
    (d ≡ c) × TellsNoPlace was told × (is ≡ was)
    ⊎ (was ≡ None) × (r : Result (List (K × ℕ)) DrainFault) × ListLeaves lists r c d × TellsList r told was is
