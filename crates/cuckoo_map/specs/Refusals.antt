-- Why a call was refused: what it found held, or what it said of room.
use Rattle.std.specs.Prelude.{◌≡◌, ◌≢◌, ◌⊎◌, ℕ, ◌<◌, ◌^◌, List, ◌++◌, All, Contains}
use Rattle.ck_model.specs.declared.history.Reason as history
use Rattle.ck_model.specs.declared.history.Reason.TheVariants as reason
use Rattle.ck_model.specs.declared.settings.Settings.{Settings}
use Rattle.ck_model.specs.Promise.{Name, After}
use Rattle.ck_model.specs.Contents.{layout_of, Stripes, IsStripeOf, bindings, power_of}
use Rattle.ck_model.specs.Paths.{Grounds}
use Rattle.ck_refusal.specs.declared.refusal.Why.{Why}
use Rattle.ck_refusal.specs.declared.refusal.Why.TheVariants.{Busy, Memory, Full, LoadTooLow}
use Rattle.ck_core.specs.declared.view.RoomNote.{RoomNote}
use Rattle.ck_core.specs.Steps.{noted}
use Rattle.ck_words.specs.Passes.{PassState}
use Rattle.ck_words.specs.Retries.{StaysBut, Stays, as_doubled, FindsAmong, FindsLast, HasMissed}
use Rattle.ck_words.specs.Holding.{HasHeld}
use Rattle.cuckoo_map.specs.Needed.{HasGrownFor}

-- a stripe of the table
abbrev pub IsStripeIn : Settings → ℕ → Type 0
IsStripeIn set t = t < 2 ^ set.s

-- Why the name was without room, as the history has it. A busy insertion has no other reason than that its buckets were full.
abbrev pub reason_of : Why → history.Reason
reason_of (Busy t) = reason.NoRoom
reason_of Memory = reason.Memory
reason_of Full = reason.Full
reason_of LoadTooLow = reason.LoadTooLow

module _ {V : Type 0} where
  -- the pass found no stripe held but those of the name
  abbrev pub FindsOwn : (Name → ℕ) → Settings → Name → PassState V → PassState V → Type 0
  FindsOwn hash set q p p2 = FindsAmong (IsStripeOf (layout_of hash set) q) p p2

  -- The call has no entry, and its last tries all found this stripe held, which is such a one: at each of them another caller held it. So its caller isn't the only one.
  pub record IsBusyAmong (P : ℕ → Type 0) (set : Settings) (t : ℕ) (p p2 : PassState V) : Type 0 where
    pub stays : Stays p.view p2.view
    pub stripe : P t
    pub tried : FindsLast set.turns t p p2
    pub missed : HasMissed set.turns t p2
    pub others : set.callers ≢ 1

  -- it was a stripe of the name
  abbrev pub IsBusyAt : (Name → ℕ) → Settings → Name → ℕ → PassState V → PassState V → Type 0
  IsBusyAt hash set q t p p2 = IsBusyAmong (IsStripeOf (layout_of hash set) q) set t p p2

  -- the note says of the name that it found no room for this reason
  abbrev pub SaysOf : Name → history.Reason → RoomNote V → Type 0
  SaysOf q why x = (x.name ≡ q) × (x.reason ≡ why)

  -- among what it has noted since is that the name found no room for this reason
  abbrev pub HasNoted : Name → history.Reason → PassState V → PassState V → Type 0
  HasNoted q why p p2 = (more : List (RoomNote V)) × (hs : Stripes V) × (p2.view.no_slot ≡ more ++ p.view.no_slot) × Contains more (noted q why hs)

  -- or that its buckets were full
  abbrev pub SaysNoRoom : Name → PassState V → PassState V → Type 0
  SaysNoRoom q = HasNoted q reason.NoRoom

  -- the pass found no stripe held but those of the name, or any once the name's buckets were full
  abbrev pub FindsOwnUnlessFull : (Name → ℕ) → Settings → Name → PassState V → PassState V → Type 0
  FindsOwnUnlessFull hash set q p p2 = FindsAmong (λ t. IsStripeOf (layout_of hash set) q t ⊎ SaysNoRoom q p p2) p p2

  -- What all stripes contained when the pass noted it, which gives the reason to refuse the name. The trace tells it: at a moment since p the caller held them all, and by its next step told that they contain this. It binds what the history left, which is all that the pass has seen. The pass was told its power.
  pub record GivesGrounds (hash : Name → ℕ) (set : Settings) (q : Name) (why : history.Reason) (more : List (RoomNote V)) (p p2 : PassState V) : Type 0 where
    pub contents : Stripes V
    pub is_noted : Contains more (noted q why contents)
    pub grounds : Grounds (layout_of hash set) set.min_load contents q why
    pub after : After p2.view.seen (bindings contents)
    pub held : (old : Stripes V) × HasHeld set.s p.view.watched p2.view.seen old contents p2.view
    pub power : p2.view.told ≡ power_of contents

  -- what was found, or noted of room and why, where an insertion is refused for this reason; a busy one has made no doubling
  abbrev pub ShowsWhy : (Name → ℕ) → Settings → Name → Why → List (RoomNote V) → PassState V → PassState V → Type 0
  ShowsWhy hash set q (Busy t) more p p2 = (t < 2 ^ set.s) × FindsLast set.turns t p p2 × (set.callers ≢ 1) × (p2.view.doublings ≡ p.view.doublings) × HasMissed set.turns t p2
  ShowsWhy hash set q why more p p2 = GivesGrounds hash set q (reason_of why) more p p2

  -- The insertion was refused for this reason, and has no entry. It has noted nothing of room but that its name's buckets were full, and the reason.
  pub record IsRefused (hash : Name → ℕ) (set : Settings) (q : Name) (why : Why) (p p2 : PassState V) : Type 0 where
    pub more : List (RoomNote V)
    pub stays : StaysBut more (as_doubled p p2).view p2.view
    pub own : All (λ x. SaysOf q reason.NoRoom x ⊎ SaysOf q (reason_of why) x) more
    pub shown : ShowsWhy hash set q why more p p2
    pub grown : HasGrownFor hash set q p p2
