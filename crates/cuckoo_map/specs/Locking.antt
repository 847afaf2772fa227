-- The whole table under one caller.
use Rattle.std.specs.Prelude.{◌≡◌, ◌↔◌, ℕ, ◌+◌, ◌-◌, ◌<◌, ◌≤◌, List, reverse, [], Some, Bool, true, false, Result, Ok, Err, OnOk, OnErr, IfOk, IfErr}
use Rattle.std.specs.FinMap.{empty, entries, from_entries}
use Rattle.std.specs.Borrow.{Bor}
use Rattle.std.specs.Fn.{Mut}
use Rattle.ck_model.specs.declared.history.Act.{Act}
use Rattle.ck_model.specs.declared.history.Call.{Call}
use Rattle.ck_model.specs.declared.history.Call.TheVariants.{On, Session}
use Rattle.ck_model.specs.declared.history.Reply.{Reply}
use Rattle.ck_model.specs.declared.history.Reply.TheVariants.{Closed}
use Rattle.ck_model.specs.declared.settings.Settings.{Settings}
use Rattle.ck_model.specs.Promise.{Name, Map, Client, Step, After, Follows}
use Rattle.ck_model.specs.Contents.{layout_of, Stripes, bindings, NamesApart, power_of}
use Rattle.ck_model.specs.Paths.{HasNoRoom, Grounds, reason_of_lack}
use Rattle.ck_model.specs.Sections.{Renewed}
use Rattle.ck_stripe.specs.Stripe.{StripeState}
use Rattle.ck_model.specs.declared.lack.Lack.{Lack}
use Rattle.ck_stripe.specs.Stripes.{contents_of}
use Rattle.ck_stripe.specs.Tables.{AreAllHeld, AreSettled, IsTable, KeepsBindings}
use Rattle.ck_section.specs.Retaining.{RetainsMap}
use Rattle.ck_section.specs.Room.{MakesRoom, GivesReason, GrowsForRoom, OnlyDoubles}
use Rattle.ck_core.specs.Steps.{growing}
use Rattle.ck_words.specs.Words.{WordsState}
use Rattle.ck_words.specs.Passes.{PassState, IsPassOf, ShowsSeen}
use Rattle.ck_words.specs.Retries.{Stays, FindsAmong}
use Rattle.ck_refusal.specs.declared.refusal.GrowFault.{GrowFault}
use Rattle.ck_refusal.specs.declared.refusal.GrowFault.TheVariants.{Busy, Memory, OverMax}
use Rattle.ck_refusal.specs.declared.refusal.Why.{Why}
use Rattle.ck_refusal.specs.declared.refusal.Refused.{Refused}
use Rattle.cuckoo_map.specs.Refusals.{IsStripeIn}
use Rattle.ck_refusal.specs.Faults.{why_of}
use Rattle.cuckoo_map.specs.Growth.{IsLeastPower}
use Rattle.cuckoo_map.specs.Needed.{DoublesFor}
use Rattle.cuckoo_map.specs.Callers.{CallerState, caller_of, pass_of, KeepsNotesBut}

-- Its caller, what all stripes contained when it locked the table, and the stripes.
pub record LockedState (V : Type 0) : Type 0 where
  pub caller : CallerState V
  pub before : Stripes V
  pub stripes : List (StripeState V)

module _ {V : Type 0} where
  -- the table, locked by this pass
  abbrev pub locked_of : WordsState → PassState V → LockedState V
  locked_of w p = record { caller = caller_of w p; before = reverse p.view.held; stripes = p.stripes }

  -- the map as it was when the table was locked
  abbrev pub start_of : LockedState V → Map V
  start_of l = bindings l.before

  -- the map as it is
  abbrev pub map_of : LockedState V → Map V
  map_of l = bindings (contents_of l.stripes)

  -- the power as it is
  abbrev pub locked_power : LockedState V → ℕ
  locked_power l = power_of (contents_of l.stripes)

  -- the session so far, from the map as it was to the map as it is
  abbrev pub session_call : LockedState V → Call V
  session_call l = Session (entries (start_of l)) (entries (map_of l))

  -- the session's entry stands right behind what the client had seen
  abbrev pub EndsSession : LockedState V → Client V → Type 0
  EndsSession l d = (by : ℕ) × (l.caller.client.by ≡ Some by) × Follows l.caller.client (record { by = by; call = session_call l; reply = Closed }) d

  -- it keeps its notes, and the doublings of the session are counted and noted
  abbrev pub EndsNotes : LockedState V → CallerState V → Type 0
  EndsNotes l d = KeepsNotesBut [] l.caller d × (d.notes.doublings ≡ l.caller.notes.doublings + (locked_power l - power_of l.before))
      × (d.notes.grown_from ≡ growing l.caller.notes.grown_from l.before (locked_power l - power_of l.before))

  -- from l to m nothing but the stripes may have changed
  abbrev pub IsSameSession : LockedState V → LockedState V → Type 0
  IsSameSession l m = m ≡ record l { stripes = m.stripes }

  -- The pass of a caller holds all stripes, settled. What they contain is lawful, with a power not below that of when they were taken.
  pub record IsLocked (hash : Name → ℕ) (w : WordsState) (p : PassState V) : Type 0 where
    pub own : IsPassOf w p
    pub alone : p.view.others ≡ []
    pub number : (m : ℕ) × (p.view.by ≡ Some m) × (m < w.settings.callers)
    pub table : IsTable w.settings.s p.stripes
    pub settled : AreSettled p.stripes
    pub shows : ShowsSeen hash w.settings p
    pub renewed : Renewed (layout_of hash w.settings) (reverse p.view.held) (contents_of p.stripes)

  -- By this pass the table was locked. The map is what the history leaves, up to what the caller has seen.
  pub record HasLocked (w : WordsState) (p : PassState V) (l : LockedState V) : Type 0 where
    pub table : l.caller.table ≡ w
    pub stays : Stays p.view (pass_of l.caller).view
    pub found : FindsAmong (IsStripeIn w.settings) p (pass_of l.caller)
    pub after : After l.caller.client.seen (start_of l)
    pub same : map_of l ≡ start_of l
    pub power : locked_power l ≡ power_of l.before

  -- From l to m the map went by a call on a name with this reply.
  pub record HasActed (q : Name) (l m : LockedState V) (act : Act V) (reply : Reply V) : Type 0 where
    pub session : IsSameSession l m
    pub step : Step (map_of l) (On q act) reply (map_of m)

  -- From l to m the map went by a call on a name with this reply, and the number of buckets stayed.
  pub record HasChanged (q : Name) (l m : LockedState V) (act : Act V) (reply : Reply V) : Type 0 where
    pub acted : HasActed q l m act reply
    pub power : locked_power m ≡ locked_power l

  -- From l to m the table has doubled, if at all, for want of room for the name alone: at each power from that of l on, below that of m, no displacement made room for it, and enough slots were taken to grow.
  abbrev pub HasDoubledFor : (Name → ℕ) → Name → LockedState V → LockedState V → Type 0
  HasDoubledFor hash q l m = DoublesFor hash l.caller.table.settings q (contents_of l.stripes) (locked_power l) (locked_power m)

  -- From l to m all names were unbound. The number of buckets stayed.
  pub record Clears (l m : LockedState V) : Type 0 where
    pub session : IsSameSession l m
    pub power : locked_power m ≡ locked_power l
    pub none : map_of m ≡ empty

  -- The pairs are those of the map, each name once, in any order.
  pub record Lists (pairs : List (Name × V)) (m : Map V) : Type 0 where
    pub same : from_entries pairs ≡ m
    pub once : NamesApart pairs

  -- From l to m the map stayed as it was. The power may have risen, and entries stand elsewhere.
  pub record KeepsMap (l m : LockedState V) : Type 0 where
    pub session : IsSameSession l m
    pub same : map_of m ≡ map_of l

  -- The name is bound or one of its buckets has a free slot, so an insertion of it isn't refused.
  pub record HasRoomFor (hash : Name → ℕ) (q : Name) (l : LockedState V) : Type 0 where
    pub is : ¬ (HasNoRoom (layout_of hash l.caller.table.settings) (contents_of l.stripes) q)

  -- from l to m each name that had room has it still
  abbrev pub KeepsRoom : (Name → ℕ) → LockedState V → LockedState V → Type 0
  KeepsRoom hash l m = (r : Name) → HasRoomFor hash r l → HasRoomFor hash r m

  -- From l to m the map stayed as it was, and what had room has it still. This name had none, and what all stripes contain at m gives the reason to refuse it.
  pub record LacksRoom (hash : Name → ℕ) (q : Name) (why : Why) (l m : LockedState V) : Type 0 where
    pub kept : KeepsMap l m
    pub none : ¬ (HasRoomFor hash q l)
    pub others : KeepsRoom hash l m
    pub lack : Lack
    pub is : why ≡ why_of lack
    pub grounds : Grounds (layout_of hash l.caller.table.settings) l.caller.table.settings.min_load (contents_of m.stripes) q (reason_of_lack lack)

  -- The key came back with the value, or with what was to make one, for want of room.
  abbrev pub GivesBack : {K X : Type 0} → (Name → ℕ) → Name → K → X → LockedState V → LockedState V → Refused K X → Type 0
  GivesBack hash q key x l m e = (e.key ≡ key) × (e.value ≡ x) × LacksRoom hash q e.why l m

  -- What an insertion leaves of the locked table: it was answered so, or was refused, and key and value came back. The table grew for want of room for the name alone.
  pub record LockedInsertionLeaves {A K X : Type 0} (answers : (Act V → Reply V → Type 0) → A → Type 0) (hash : Name → ℕ) (q : Name) (key : K) (x : X) (result : Result A (Refused K X)) (l m : LockedState V) : Type 0 where
    pub answered : IfOk result (answers (HasActed q l m))
    pub refused : IfErr result (GivesBack hash q key x l m)
    pub grows : HasDoubledFor hash q l m

  -- A locked table was to have 2^power buckets at least, and went from l to m. No binding changed. It says whether it had fewer: if so, it has just so many; if not, nothing changed.
  -- Refused for want of memory, it had fewer, and has fewer still.
  pub record RehashesLocked (power : ℕ) (result : Result Bool GrowFault) (l m : LockedState V) : Type 0 where
    pub kept : KeepsMap l m
    pub over_max : (result ≡ Err OverMax) ↔ (l.caller.table.settings.max < power)
    pub unchanged : result ≡ Err OverMax → m ≡ l
    pub grown : result ≡ Ok true → (locked_power l < power) × (locked_power m ≡ power)
    pub enough : result ≡ Ok false → (power ≤ locked_power l) × (m ≡ l)
    pub short : result ≡ Err Memory → (locked_power l < power) × (locked_power m < power)
    pub busy : (t : ℕ) → ¬ (result ≡ Err (Busy t))

  -- the same of the least power with which it has n slots
  abbrev pub ReservesLocked : ℕ → Result Bool GrowFault → LockedState V → LockedState V → Type 0
  ReservesLocked n result l m = (power : ℕ) × IsLeastPower n power × RehashesLocked power result l m

  -- Room for the name was looked for among all stripes, which went from old to new: they are settled, and there is room, or a lack of it that was found, and nothing was displaced. They doubled only where nothing else made room.
  pub record SeeksRoom (hash : Name → ℕ) (set : Settings) (q : Name) (found : Result (Unit {0}) Lack) (old new : List (StripeState V)) : Type 0 where
    pub held : AreAllHeld set.s new
    pub no_call : KeepsBindings (layout_of hash set) old new
    pub room : OnOk found (MakesRoom (layout_of hash set) old new q)
    pub refused : IfErr found (GivesReason (layout_of hash set) set.min_load old new q)
    pub left : OnErr found (OnlyDoubles (layout_of hash set) old new)
    pub grows : GrowsForRoom (layout_of hash set) set.min_load old new q

-- From l to m the closure f was asked about each pair once, and those were unbound for which it answered false. The number of buckets stayed.
pub record Retains {F K V : Type 0} (g : Mut F (Bor K × (Bor V × Unit {0})) Bool) (name : K → Name) (f : F) (l m : LockedState V) : Type 0 where
  pub session : IsSameSession l m
  pub power : locked_power m ≡ locked_power l
  pub pairs : RetainsMap g name f (map_of l) (map_of m)
