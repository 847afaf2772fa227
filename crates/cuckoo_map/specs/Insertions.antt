-- What an insertion leaves of its pass. Before it is answered it may find its name without room, and say so.
use Rattle.std.specs.Prelude.{◌≡◌, ℕ, ◌^◌, List, [], ◌∷◌, All, Result, IfOk, IfErr, reverse}
use Rattle.ck_model.specs.declared.history.Act.{Act}
use Rattle.ck_model.specs.declared.history.Call.{Call}
use Rattle.ck_model.specs.declared.history.Call.TheVariants.{On}
use Rattle.ck_model.specs.declared.history.Reply.{Reply}
use Rattle.ck_model.specs.declared.history.Reason.TheVariants as reason
use Rattle.ck_model.specs.declared.settings.Settings.{Settings}
use Rattle.ck_model.specs.Promise.{Name}
use Rattle.ck_model.specs.Counting.{counting}
use Rattle.ck_model.specs.Contents.{Stripes, layout_of, Lawful}
use Rattle.ck_model.specs.Paths.{HasNoRoom}
use Rattle.ck_stripe.specs.Stripes.{contents_of, HaveNoSpare}
use Rattle.ck_stripe.specs.Tables.{AreAllHeld}
use Rattle.ck_section.specs.Places.{IsPlaceOf}
use Rattle.ck_section.specs.Entries.{IsEntryOf}
use Rattle.cuckoo_map.specs.declared.room.Room.{Room}
use Rattle.ck_core.specs.declared.view.RoomNote.{RoomNote}
use Rattle.ck_core.specs.Steps.{noted}
use Rattle.ck_words.specs.Passes.{PassState, numbers_of}
use Rattle.ck_words.specs.StripeSets.{list_of}
use Rattle.ck_words.specs.Retries.{Stays, StaysBut, as_doubled}
use Rattle.ck_words.specs.Answering.{IsAnsweredBut}
use Rattle.ck_words.specs.Renewing.{HasRenewed}
use Rattle.ck_refusal.specs.declared.refusal.Refused.{Refused}
use Rattle.cuckoo_map.specs.Needed.{HasGrownFor, HoldsGrown}
use Rattle.cuckoo_map.specs.Refusals.{SaysOf, FindsOwnUnlessFull, IsRefused}

module _ {V : Type 0} where
  -- the pass has noted that the name was unbound in these stripes and its buckets were full
  abbrev pub FindsFull : Name → Stripes V → PassState V → PassState V → Type 0
  FindsFull q hs p p2 = StaysBut (noted q reason.NoRoom hs ∷ []) p.view p2.view

  -- in such as it held
  abbrev pub HasFoundNoRoom : Name → PassState V → PassState V → Type 0
  HasFoundNoRoom q p p2 = (hs : Stripes V) × FindsFull q hs p p2

  -- each note says of the name that its buckets were full
  abbrev pub SayFull : Name → List (RoomNote V) → Type 0
  SayFull q more = All (SaysOf q reason.NoRoom) more

  -- The call was answered by this reply. The pass has noted nothing of room but that the name's buckets were full, and has made no doubling that the name didn't need.
  abbrev pub IsAnsweredWithRoom : (Name → ℕ) → Settings → Name → Call V → Reply V → PassState V → PassState V → Type 0
  IsAnsweredWithRoom hash set q call reply p p2 =
      (more : List (RoomNote V)) × SayFull q more × IsAnsweredBut more call reply (as_doubled p p2) p2 × HasGrownFor hash set q p p2

  -- the insertion is answered: it was this act on the name
  abbrev pub IsInserted : (Name → ℕ) → Settings → Name → PassState V → PassState V → Act V → Reply V → Type 0
  IsInserted hash set q p p2 act reply = IsAnsweredWithRoom hash set q (On q act) reply p p2

  -- The answer tells of an act with a reply that was done.
  abbrev pub TellsOf : {A : Type 0} → (A → Act V → Reply V → Type 0) → (Act V → Reply V → Type 0) → A → Type 0
  TellsOf tells P answer = (act : Act V) × (reply : Reply V) × tells answer act reply × P act reply

  -- The pass holds these stripes. They were renewed since they were taken, and have no memory to spare. The name may be at this place among them, and has this entry there.
  pub record HoldsRoom (hash : Name → ℕ) (set : Settings) (q : Name) (room : Room) (p : PassState V) : Type 0 where
    pub numbered : numbers_of p.stripes ≡ list_of room.spot.stripes
    pub at : IsPlaceOf hash p.stripes q room.spot.place
    pub s : room.spot.place.s ≡ set.s
    pub of_table : room.spot.stripes.s ≡ set.s
    pub entry : IsEntryOf hash p.stripes q room.spot.place room.entry
    pub no_spare : HaveNoSpare p.stripes
    pub renewed : HasRenewed hash set p
    pub grown : HoldsGrown hash set q p

  -- Since p the pass has taken stripes, with an entry of the name among them. It has noted nothing of room but that its name's buckets were full.
  pub record HasRoom (hash : Name → ℕ) (set : Settings) (q : Name) (room : Room) (p p2 : PassState V) : Type 0 where
    pub more : List (RoomNote V)
    pub own : SayFull q more
    pub stays : StaysBut more p.view p2.view
    pub held : HoldsRoom hash set q room p2

  -- Since p the pass has taken all stripes, and has settled them, with room for the name among them: it is bound or one of its buckets has a free slot. They were renewed since they were taken.
  pub record HasRoomInAll (hash : Name → ℕ) (set : Settings) (q : Name) (p p2 : PassState V) : Type 0 where
    pub stays : Stays p.view p2.view
    pub numbered : numbers_of p2.stripes ≡ counting 0 (2 ^ set.s)
    pub all : AreAllHeld set.s p2.stripes
    pub taken : Lawful (layout_of hash set) (reverse p2.view.held)
    pub renewed : HasRenewed hash set p2
    pub grown : HoldsGrown hash set q p2
    pub room : ¬ (HasNoRoom (layout_of hash set) (contents_of p2.stripes) q)

  -- Since p the pass may have sought room for the name. It has noted nothing of room but that the name's buckets were full, and has made no doubling that the name didn't need.
  pub record HasSoughtRoom (hash : Name → ℕ) (set : Settings) (q : Name) (p p2 : PassState V) : Type 0 where
    pub more : List (RoomNote V)
    pub own : SayFull q more
    pub stays : StaysBut more (as_doubled p p2).view p2.view
    pub grown : HasGrownFor hash set q p p2

  -- The insertion was refused for this reason, and the key came back with the value, or with what was to make one.
  abbrev pub HandsBack : {K X : Type 0} → (Name → ℕ) → Settings → Name → K → X → PassState V → PassState V → Refused K X → Type 0
  HandsBack hash set q key x p p2 e = (e.key ≡ key) × (e.value ≡ x) × IsRefused hash set q e.why p p2

  -- Since p an insertion came to an answer, which says so of an act on the name that was done, or was refused. It found no stripe held but those of its name, or any once its name's buckets were full.
  pub record HasInserted {K X A : Type 0} (answers : (Act V → Reply V → Type 0) → A → Type 0) (hash : Name → ℕ) (set : Settings) (q : Name) (key : K) (x : X) (result : Result A (Refused K X)) (p p2 : PassState V) : Type 0 where
    pub answered : IfOk result (answers (IsInserted hash set q p p2))
    pub refused : IfErr result (HandsBack hash set q key x p p2)
    pub found : FindsOwnUnlessFull hash set q p p2
