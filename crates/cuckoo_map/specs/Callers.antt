-- What contracts see of a caller, and what its calls leave of it.
use Rattle.std.specs.Prelude.{◌≡◌, ℕ, ◌<◌, ◌≤◌, List, [], ◌∷◌, ◌++◌, map, All, Option, Result, Bool, IfOk, IfErr, OnOk}
use Rattle.std.specs.declared.cmp.Ordering.{Ordering}
use Rattle.std.specs.FinMap.{entries}
use Rattle.ck_model.specs.declared.history.Act.{Act}
use Rattle.ck_model.specs.declared.history.Call.{Call}
use Rattle.ck_model.specs.declared.history.Call.TheVariants.{On, Len, SessionOn, Session}
use Rattle.ck_model.specs.declared.history.Reply.{Reply}
use Rattle.ck_model.specs.declared.history.Reply.TheVariants.{Count, Closed}
use Rattle.ck_model.specs.Promise.{Name, Map, Client, Replied}
use Rattle.ck_model.specs.Listing.{ListsInOrder}
use Rattle.ck_model.specs.Numbered.{IsIn, numbers}
use Rattle.ck_core.specs.declared.view.RoomNote.{RoomNote}
use Rattle.ck_core.specs.State.{client_of}
use Rattle.ck_words.specs.Words.{WordsState}
use Rattle.ck_words.specs.Passes.{PassState}
use Rattle.ck_words.specs.Closing.{IsCaller, parts_of}
use Rattle.ck_words.specs.Retries.{WatchesMore, DecidesThenGives, Stays, as_doubled, FindsAmong}
use Rattle.ck_words.specs.Meeting.{MessageState, Hears}
use Rattle.ck_refusal.specs.declared.refusal.Busy.{Busy}
use Rattle.ck_refusal.specs.declared.refusal.DrainFault.{DrainFault}
use Rattle.ck_refusal.specs.declared.refusal.DrainFault.TheVariants as drain
use Rattle.ck_refusal.specs.declared.refusal.GrowFault.{GrowFault}
use Rattle.ck_refusal.specs.declared.refusal.KeysRefused.{KeysRefused}
use Rattle.ck_refusal.specs.declared.refusal.Refused.{Refused}
use Rattle.cuckoo_map.specs.Refusals.{IsStripeIn, FindsOwn, FindsOwnUnlessFull, IsBusyAmong, IsBusyAt}
use Rattle.cuckoo_map.specs.SeveralKeys.{IsStripeOfAny, RefusesNames}
use Rattle.cuckoo_map.specs.Notes.{Notes, notes_of, idle_pass}
use Rattle.cuckoo_map.specs.Needed.{HasGrownFor}
use Rattle.cuckoo_map.specs.Insertions.{SayFull, HandsBack}
use Rattle.cuckoo_map.specs.Growth.{Rehashes, Reserves}

-- Its table, what its client sees, and what else it knows.
pub record CallerState (V : Type 0) : Type 0 where
  pub table : WordsState
  pub client : Client V
  pub notes : Notes V

module _ {V : Type 0} where
  -- the caller of the table that has this pass
  abbrev pub caller_of : WordsState → PassState V → CallerState V
  caller_of w p = record { table = w; client = client_of p.view; notes = notes_of p.view }

  -- the callers of the table that have these passes
  abbrev pub callers_of : WordsState → List (PassState V) → List (CallerState V)
  callers_of w passes = map (λ (p : PassState V). caller_of w p) passes

  -- its pass
  abbrev pub pass_of : CallerState V → PassState V
  pass_of c = idle_pass c.table.table c.client c.notes

  -- The caller d is c after calls: it has the same table and the same number.
  pub record IsSameCaller (c d : CallerState V) : Type 0 where
    pub table : d.table ≡ c.table
    pub by : d.client.by ≡ c.client.by

  -- The client's call was answered by this reply.
  abbrev pub Replies : Call V → CallerState V → CallerState V → Reply V → Type 0
  Replies call c d reply = Replied call reply c.client d.client

  -- the call was this act on the name, and was answered by this reply
  abbrev pub RepliesOn : Name → CallerState V → CallerState V → Act V → Reply V → Type 0
  RepliesOn q c d act reply = Replied (On q act) reply c.client d.client

  -- so many names were bound
  abbrev pub Counts : CallerState V → CallerState V → ℕ → Type 0
  Counts c d count = Replies Len c d (Count count)

  -- From c to d it was told no lower power, met nobody, and watched more of the trace, where it decided its entries since by its own steps, behind which it gave stripes back alone. It has noted more that names found no room.
  pub record KeepsNotesBut (more : List (RoomNote V)) (c d : CallerState V) : Type 0 where
    pub settings : d.client.settings ≡ c.client.settings
    pub told : c.notes.told ≤ d.notes.told
    pub heard : (d.notes.heard ≡ c.notes.heard) × (d.notes.heard_told ≡ c.notes.heard_told) × (d.notes.heard_watched ≡ c.notes.heard_watched)
    pub watched : WatchesMore (pass_of c).view (pass_of d).view
    pub decided : DecidesThenGives (pass_of c).view (pass_of d).view
    pub no_slot : d.notes.no_slot ≡ more ++ c.notes.no_slot

  -- and it has noted so of none more, and made no doubling
  abbrev pub KeepsNotes : CallerState V → CallerState V → Type 0
  KeepsNotes c d = KeepsNotesBut [] c d × (d.notes.doublings ≡ c.notes.doublings) × (d.notes.grown_from ≡ c.notes.grown_from)

  -- and it has noted nothing but that the buckets of this name were full, and made no doubling that the name didn't need
  abbrev pub NotesFull : (Name → ℕ) → Name → CallerState V → CallerState V → Type 0
  NotesFull hash q c d =
      (more : List (RoomNote V)) × SayFull q more × KeepsNotesBut more c d × HasGrownFor hash c.table.settings q (pass_of c) (pass_of d)

  -- nothing changed but what it was told, found and saw of others
  abbrev pub StaysAsIs : CallerState V → CallerState V → Type 0
  StaysAsIs c d = Stays (pass_of c).view (pass_of d).view

  -- and how often it made the table double
  abbrev pub StaysButDoublings : CallerState V → CallerState V → Type 0
  StaysButDoublings c d = Stays (as_doubled (pass_of c) (pass_of d)).view (pass_of d).view

  -- what it tells others
  abbrev pub message_of_caller : CallerState V → MessageState V
  message_of_caller c = record { table = c.table.table; seen = c.client.seen; told = c.notes.told; watched = c.notes.watched }

  -- d has heard the message
  abbrev pub HearsMessage : MessageState V → CallerState V → CallerState V → Type 0
  HearsMessage message c d = Hears message (pass_of c) (pass_of d)

  -- d has met a
  abbrev pub MeetsCaller : CallerState V → CallerState V → CallerState V → Type 0
  MeetsCaller a c d = HearsMessage (message_of_caller a) c d

  -- the table was to have 2^power buckets at least
  abbrev pub GrowsTo : ℕ → Result Bool GrowFault → CallerState V → CallerState V → Type 0
  GrowsTo power result c d = Rehashes c.table.settings power result (pass_of c) (pass_of d)

  -- the table was to have n slots at least
  abbrev pub GrowsFor : ℕ → Result Bool GrowFault → CallerState V → CallerState V → Type 0
  GrowsFor n result c d = Reserves c.table.settings n result (pass_of c) (pass_of d)

  -- no stripe was found held but those of the name
  abbrev pub FindsHeldOwn : (Name → ℕ) → Name → CallerState V → CallerState V → Type 0
  FindsHeldOwn hash q c d = FindsOwn hash c.table.settings q (pass_of c) (pass_of d)

  -- no stripe was found held but those of the name, or any once the name's buckets were full
  abbrev pub FindsHeldUnlessFull : (Name → ℕ) → Name → CallerState V → CallerState V → Type 0
  FindsHeldUnlessFull hash q c d = FindsOwnUnlessFull hash c.table.settings q (pass_of c) (pass_of d)

  -- no stripe was found held but those of the two names
  abbrev pub FindsHeldOfTwo : (Name → ℕ) → Name → Name → CallerState V → CallerState V → Type 0
  FindsHeldOfTwo hash q r c d = FindsAmong (IsStripeOfAny hash c.table.settings (q ∷ r ∷ [])) (pass_of c) (pass_of d)

  -- no stripe was found held but those of the table
  abbrev pub FindsHeldOfAny : CallerState V → CallerState V → Type 0
  FindsHeldOfAny c d = FindsAmong (IsStripeIn c.table.settings) (pass_of c) (pass_of d)

  -- the call on the name was refused, since this stripe was busy
  abbrev pub IsBusyOn : (Name → ℕ) → Name → CallerState V → CallerState V → Busy → Type 0
  IsBusyOn hash q c d busy = IsBusyAt hash c.table.settings q busy.0 (pass_of c) (pass_of d)

  -- the call on the two names was refused, since this stripe was busy
  abbrev pub IsBusyOnTwo : (Name → ℕ) → Name → Name → CallerState V → CallerState V → Busy → Type 0
  IsBusyOnTwo hash q r c d busy =
      IsBusyAmong (IsStripeOfAny hash c.table.settings (q ∷ r ∷ [])) c.table.settings busy.0 (pass_of c) (pass_of d)

  -- the call on all stripes was refused, since this one was busy
  abbrev pub IsBusyOnAny : CallerState V → CallerState V → Busy → Type 0
  IsBusyOnAny c d busy =
      IsBusyAmong (IsStripeIn c.table.settings) c.table.settings busy.0 (pass_of c) (pass_of d)

  -- all names were unbound in one session, and these were the pairs
  abbrev pub Drains : {K : Type 0} → (K → Name) → (K → K → Ordering) → CallerState V → CallerState V → List (K × V) → Type 0
  Drains name cmp c d pairs = (m : Map V) × ListsInOrder name cmp pairs m × Replies (Session (entries m) []) c d Closed

  -- the pairs were not taken out: this stripe was busy, or there was no memory, and then a session changed nothing
  abbrev pub IsNotDrained : CallerState V → CallerState V → DrainFault → Type 0
  IsNotDrained c d (drain.Busy t) = IsBusyAmong (IsStripeIn c.table.settings) c.table.settings t (pass_of c) (pass_of d)
  IsNotDrained c d drain.Memory = (m : Map V) × Replies (Session (entries m) (entries m)) c d Closed

  -- the table was not ended: this stripe was busy, or there was no memory, and nothing changed
  abbrev pub IsNotClosed : CallerState V → CallerState V → DrainFault → Type 0
  IsNotClosed c d (drain.Busy t) = IsBusyAmong (IsStripeIn c.table.settings) c.table.settings t (pass_of c) (pass_of d)
  IsNotClosed c d drain.Memory = StaysAsIs c d

  -- Passes of other callers of its table, of which each number but its own has one.
  pub record AreOthers (c : CallerState V) (ps : List (PassState V)) : Type 0 where
    pub callers : All (IsCaller c.table) ps
    pub all : (m : ℕ) → m < c.table.settings.callers → IsIn m (numbers (parts_of (ps ++ pass_of c ∷ [])))

  -- the insertion was refused, and the key came back with the value, or with what was to make one
  abbrev pub ComesBack : {K X : Type 0} → (Name → ℕ) → Name → K → X → CallerState V → CallerState V → Refused K X → Type 0
  ComesBack hash q key x c d = HandsBack hash c.table.settings q key x (pass_of c) (pass_of d)

  -- the call was refused, since it found this stripe held, which is such a one
  abbrev pub IsBusyOnSome : (ℕ → Type 0) → CallerState V → CallerState V → Busy → Type 0
  IsBusyOnSome P c d busy = IsBusyAmong P c.table.settings busy.0 (pass_of c) (pass_of d)

  -- no stripe was found held but such ones
  abbrev pub FindsHeldAmong : (ℕ → Type 0) → CallerState V → CallerState V → Type 0
  FindsHeldAmong P c d = FindsAmong P (pass_of c) (pass_of d)

  -- What a look-up or a change of one name leaves of its caller: it was answered so, or was refused, since a stripe of the name was busy.
  pub record QueryLeaves {A : Type 0} (answers : (Act V → Reply V → Type 0) → A → Type 0) (hash : Name → ℕ) (q : Name) (result : Result A Busy) (c d : CallerState V) : Type 0 where
    pub same : IsSameCaller c d
    pub answered : IfOk result (answers (RepliesOn q c d))
    pub notes : OnOk result (KeepsNotes c d)
    pub busy : IfErr result (IsBusyOn hash q c d)
    pub found : FindsHeldOwn hash q c d

  -- What an insertion leaves of its caller: it was answered so, or was refused, and key and value came back.
  pub record InsertionLeaves {A K X : Type 0} (answers : (Act V → Reply V → Type 0) → A → Type 0) (hash : Name → ℕ) (q : Name) (key : K) (x : X) (result : Result A (Refused K X)) (c d : CallerState V) : Type 0 where
    pub same : IsSameCaller c d
    pub answered : IfOk result (answers (RepliesOn q c d))
    pub notes : OnOk result (NotesFull hash q c d)
    pub refused : IfErr result (ComesBack hash q key x c d)
    pub found : FindsHeldUnlessFull hash q c d

  -- the call on the names was refused for this
  abbrev pub IsRefusedOn : (Name → ℕ) → List Name → CallerState V → CallerState V → KeysRefused → Type 0
  IsRefusedOn hash qs c d refused = RefusesNames hash c.table.settings qs (pass_of c) (pass_of d) refused

  -- What a call on these names leaves of its caller: it was answered at one moment, at which they went from these bindings to those, as `P` says of the answer; or it was refused.
  pub record KeysLeave {A : Type 0} (P : A → List (Option V) → List (Option V) → Type 0) (hash : Name → ℕ) (qs : List Name) (result : Result A KeysRefused) (c d : CallerState V) : Type 0 where
    pub same : IsSameCaller c d
    pub answered : IfOk result (λ answer. (before after : List (Option V)) × P answer before after × Replies (SessionOn qs before after) c d Closed)
    pub notes : OnOk result (KeepsNotes c d)
    pub refused : IfErr result (IsRefusedOn hash qs c d)
    pub found : FindsHeldAmong (IsStripeOfAny hash c.table.settings qs) c d
