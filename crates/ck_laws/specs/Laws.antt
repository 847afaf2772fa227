-- What a program may conclude from the contracts of its calls.
use Rattle.std.specs.Prelude.{◌≡◌, ◌≢◌, ◌⊎◌, ℕ, ◌+◌, List, [], ◌∷◌, ◌++◌, Option, Some, None, Bool}
use Rattle.std.specs.FinMap.{get, insert, remove, entries}
use Rattle.ck_model.specs.declared.history.Act.TheVariants.{Find, Insert, Assign, Update, Change, Upsert, Erase}
use Rattle.ck_model.specs.declared.history.Call.{Call}
use Rattle.ck_model.specs.declared.history.Call.TheVariants.{On, ChangeTwo}
use Rattle.ck_model.specs.declared.history.Reply.{Reply}
use Rattle.ck_model.specs.declared.history.Reply.TheVariants.{Was, New, Old, Done, DoneTwo, Absent}
use Rattle.ck_model.specs.declared.history.Entry.{Entry}
use Rattle.ck_model.specs.Promise.{Name, Map, Client, Replied, Step, Leads, After, StartsWith, subhistory, IsInterleaving}
use Rattle.ck_model.specs.Numbered.{Holds}
use Rattle.ck_core.specs.Sums.{total, KeepsTotal}
use Rattle.cuckoo_map.specs.Callers.{CallerState, Replies, RepliesOn}
use Rattle.cuckoo_map.specs.Acts.{Finds, Assigns, Upserts, Erases, ChangesTwo}
use Rattle.cuckoo_map.specs.Locking.{LockedState, start_of, map_of, EndsSession, IsSameSession}
use Rattle.ck_laws.specs.Sole.{IsSole, Maps, upserted, ChangesBoth}

-- one of the parts has the entry
abbrev pub IsOfPart : {V : Type 0} → List (ℕ × List (Entry V)) → Entry V → Type 0
IsOfPart {V} parts e = (m : ℕ) × (l : List (Entry V)) × Holds parts m l × (before after : List (Entry V)) × (l ≡ before ++ e ∷ after)

module _ (V : Type 0) where
  -- with one caller an answered call is a step of the map that the history leaves
  abbrev pub RepliesAreSteps : Type 0
  RepliesAreSteps = (call : Call V) (reply : Reply V) (c d : Client V) (m : Map V) → c.settings.callers ≡ 1 → Replied call reply c d → After c.seen m → (m2 : Map V) × Step m call reply m2 × After d.seen m2

  -- with several it is a step of the map to which entries of others lead first
  abbrev pub RepliesFollowOthers : Type 0
  RepliesFollowOthers = (call : Call V) (reply : Reply V) (c d : Client V) (m : Map V) → Replied call reply c d → After c.seen m → (by : ℕ) × (others : List (Entry V)) × (m1 m2 : Map V) × (c.by ≡ Some by) × (subhistory by others ≡ []) × Leads m others m1 × Step m1 call reply m2 × After d.seen m2

  -- a find tells what is bound, and leaves the map
  abbrev pub FindsRead : Type 0
  FindsRead = (m m2 : Map V) (k : Name) (o : Option V) → Step m (On k Find) (Was o) m2 → (o ≡ get m k) × (m2 ≡ m)

  -- an insertion that was new binds an unbound name
  abbrev pub InsertsBind : Type 0
  InsertsBind = (m m2 : Map V) (k : Name) (v : V) → Step m (On k (Insert v)) New m2 → (get m k ≡ None) × (m2 ≡ insert m k v)

  -- an insertion of a bound name leaves the map
  abbrev pub InsertsKeep : Type 0
  InsertsKeep = (m m2 : Map V) (k : Name) (v : V) → Step m (On k (Insert v)) Old m2 → ((w : V) × (get m k ≡ Some w)) × (m2 ≡ m)

  -- an assignment tells what was bound, and binds
  abbrev pub AssignsBind : Type 0
  AssignsBind = (m m2 : Map V) (k : Name) (v : V) (o : Option V) → Step m (On k (Assign v)) (Was o) m2 → (o ≡ get m k) × (m2 ≡ insert m k v)

  -- an update of a bound name binds it anew
  abbrev pub UpdatesBind : Type 0
  UpdatesBind = (m m2 : Map V) (k : Name) (v w : V) → Step m (On k (Update w)) (Was (Some v)) m2 → (get m k ≡ Some v) × (m2 ≡ insert m k w)

  -- an update of an unbound name leaves the map
  abbrev pub UpdatesKeep : Type 0
  UpdatesKeep = (m m2 : Map V) (k : Name) (w : V) → Step m (On k (Update w)) (Was None) m2 → (get m k ≡ None) × (m2 ≡ m)

  -- a change from one value to another
  abbrev pub ChangesBind : Type 0
  ChangesBind = (m m2 : Map V) (k : Name) (v w : V) → Step m (On k Change) (Done v w) m2 → (get m k ≡ Some v) × (m2 ≡ insert m k w)

  -- a change of an unbound name leaves the map
  abbrev pub ChangesKeep : Type 0
  ChangesKeep = (m m2 : Map V) (k : Name) → Step m (On k Change) Absent m2 → (get m k ≡ None) × (m2 ≡ m)

  -- an upsert that was new binds an unbound name
  abbrev pub UpsertsBind : Type 0
  UpsertsBind = (m m2 : Map V) (k : Name) (u : V) → Step m (On k (Upsert u)) New m2 → (get m k ≡ None) × (m2 ≡ insert m k u)

  -- an upsert that changed one value to another
  abbrev pub UpsertsChange : Type 0
  UpsertsChange = (m m2 : Map V) (k : Name) (u v w : V) → Step m (On k (Upsert u)) (Done v w) m2 → (get m k ≡ Some v) × (m2 ≡ insert m k w)

  -- an erasure tells what was bound, and unbinds
  abbrev pub ErasesUnbind : Type 0
  ErasesUnbind = (m m2 : Map V) (k : Name) (o : Option V) → Step m (On k Erase) (Was o) m2 → (o ≡ get m k) × (m2 ≡ remove m k)

  -- a change of two bound names tells their values, and binds both anew
  abbrev pub ChangesOfTwoBind : Type 0
  ChangesOfTwoBind = (m m2 : Map V) (j k : Name) (v w v2 w2 : V) → Step m (ChangeTwo j k) (DoneTwo v w v2 w2) m2 → (get m j ≡ Some v) × (get m k ≡ Some w) × (m2 ≡ insert (insert m j v2) k w2)

  -- a change of two names that aren't both bound leaves the map
  abbrev pub ChangesOfTwoKeep : Type 0
  ChangesOfTwoKeep = (m m2 : Map V) (j k : Name) → Step m (ChangeTwo j k) Absent m2 → ((get m j ≡ None) ⊎ (get m k ≡ None)) × (m2 ≡ m)

  -- what was bound is found
  abbrev pub BoundIsFound : Type 0
  BoundIsFound = (m : Map V) (k : Name) (v : V) → get (insert m k v) k ≡ Some v

  -- what was unbound isn't
  abbrev pub UnboundIsGone : Type 0
  UnboundIsGone = (m : Map V) (k : Name) → get (remove m k) k ≡ None

  -- other names are bound as they were
  abbrev pub OthersStay : Type 0
  OthersStay = (m : Map V) (k q : Name) (v : V) → q ≢ k → (get (insert m k v) q ≡ get m q) × (get (remove m k) q ≡ get m q)

  -- a beginning of a beginning is one
  abbrev pub BeginningsAreOfAll : Type 0
  BeginningsAreOfAll = (a b c : List (Entry V)) → StartsWith b a → StartsWith c b → StartsWith c a

  -- a call of a handle without others takes its map to one that a step gives
  abbrev pub SoleRepliesAreSteps : Type 0
  SoleRepliesAreSteps = (call : Call V) (reply : Reply V) (c d : CallerState V) → IsSole c → Replies call c d reply → Maps c d (λ m m2. Step m call reply m2)

  -- where it has seen no more, it has the map that it had
  abbrev pub SoleMapsStay : Type 0
  SoleMapsStay = (c d : CallerState V) → d.client.seen ≡ c.client.seen → Maps c d (λ m m2. m2 ≡ m)

  -- its find
  abbrev pub SoleFindsRead : Type 0
  SoleFindsRead = (q : Name) (c d : CallerState V) (o : Option V) → IsSole c → Finds (RepliesOn q c d) o → Maps c d (λ m m2. (m2 ≡ m) × (o ≡ get m q))

  -- its assignment
  abbrev pub SoleAssignsBind : Type 0
  SoleAssignsBind = (q : Name) (v : V) (c d : CallerState V) (o : Option V) → IsSole c → Assigns v (RepliesOn q c d) o → Maps c d (λ m m2. (o ≡ get m q) × (m2 ≡ insert m q v))

  -- its upsert, of a closure that makes this of each value
  abbrev pub SoleUpsertsBind : Type 0
  SoleUpsertsBind = (q : Name) (u : V) (f : V → V) (c d : CallerState V) (fresh : Bool) → IsSole c → Upserts (λ v w. w ≡ f v) u (RepliesOn q c d) fresh → Maps c d (λ m m2. m2 ≡ insert m q (upserted f u (get m q)))

  -- its erasure
  abbrev pub SoleErasesUnbind : Type 0
  SoleErasesUnbind = (q : Name) (c d : CallerState V) (o : Option V) → IsSole c → Erases (RepliesOn q c d) o → Maps c d (λ m m2. (o ≡ get m q) × (m2 ≡ remove m q))

  -- its change of two, by a closure that makes these of both values
  abbrev pub SoleChangesOfTwoBind : Type 0
  SoleChangesOfTwoBind = (j k : Name) (f : V → V → V × V) (c d : CallerState V) (bound : Bool) → IsSole c → ChangesTwo (λ v w r. r ≡ f v w) (Replies (ChangeTwo j k) c d) bound → Maps c d (ChangesBoth f j k bound)

  -- a session that ends leaves the map that the locked table has
  abbrev pub SessionsLeaveTheirMap : Type 0
  SessionsLeaveTheirMap = (l : LockedState V) (d : Client V) → After l.caller.client.seen (start_of l) → EndsSession l d → After d.seen (map_of l)

  -- what a session began with, it began with after any of its calls
  abbrev pub SessionsKeepTheirStart : Type 0
  SessionsKeepTheirStart = (l m : LockedState V) → IsSameSession l m → After l.caller.client.seen (start_of l) → After m.caller.client.seen (start_of m)

  -- each entry of an interleaving stands among the entries of one of its callers
  abbrev pub EntriesStandInParts : Type 0
  EntriesStandInParts = (log before after : List (Entry V)) (e : Entry V) (parts : List (ℕ × List (Entry V))) → IsInterleaving log parts → log ≡ before ++ e ∷ after → IsOfPart parts e

-- a step of a map that a history leaves, and that keeps the sum, keeps the sum of all values
abbrev pub StepsKeepTotals : Type 0
StepsKeepTotals = (log : List (Entry ℕ)) (m m2 : Map ℕ) (call : Call ℕ) (reply : Reply ℕ) → After log m → Step m call reply m2 → KeepsTotal call reply → total (entries m2) ≡ total (entries m)

-- a change of two values of a handle without others, which keeps their sum, keeps the sum of all values
abbrev pub SoleTransfersKeepTotals : Type 0
SoleTransfersKeepTotals = (j k : Name) (c d : CallerState ℕ) (bound : Bool) → IsSole c → ChangesTwo (λ v w r. v + w ≡ r.0 + r.1) (Replies (ChangeTwo j k) c d) bound
    → Maps c d (λ m m2. total (entries m2) ≡ total (entries m))
