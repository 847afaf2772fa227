-- A rename: the value of a name goes to another one.
use Rattle.std.specs.FinMap.{get}
use Rattle.std.specs.Prelude.{◌≡◌, ◌≢◌, ◌⊎◌, ℕ, List, [], ◌∷◌, ◌++◌, Option, Some, None, Result, IfOk, IfErr, OnOk, MatchResult}
use Rattle.ck_model.specs.declared.history.Call.TheVariants.{SessionOn}
use Rattle.ck_model.specs.declared.history.Reply.TheVariants.{Closed}
use Rattle.ck_model.specs.declared.settings.Settings.{Settings}
use Rattle.ck_model.specs.declared.history.Reason.TheVariants.{NoRoom}
use Rattle.ck_model.specs.Promise.{Name}
use Rattle.ck_model.specs.Contents.{Stripes, bindings}
use Rattle.ck_section.specs.declared.two_keys.Renamed.{Renamed}
use Rattle.ck_section.specs.declared.two_keys.Renamed.TheVariants.{Done, Unbound, Occupied}
use Rattle.ck_core.specs.declared.view.RoomNote.{RoomNote}
use Rattle.ck_core.specs.Steps.{noted}
use Rattle.ck_words.specs.Passes.{PassState}
use Rattle.ck_words.specs.Retries.{FindsAmong}
use Rattle.ck_words.specs.Answering.{IsAnswered}
use Rattle.ck_refusal.specs.declared.refusal.KeysRefused.{KeysRefused}
use Rattle.ck_refusal.specs.declared.refusal.NotRenamed.{NotRenamed}
use Rattle.ck_refusal.specs.declared.refusal.RoomFault.{RoomFault}
use Rattle.ck_refusal.specs.declared.refusal.RoomFault.TheVariants.{Keys, Room}
use Rattle.ck_refusal.specs.declared.refusal.Why.{Why}
use Rattle.cuckoo_map.specs.Refusals.{IsStripeIn, IsRefused, SaysNoRoom}
use Rattle.cuckoo_map.specs.Insertions.{FindsFull, IsAnsweredWithRoom, HasSoughtRoom}
use Rattle.cuckoo_map.specs.Needed.{DoublesNothing}
use Rattle.cuckoo_map.specs.SeveralKeys.{IsStripeOfAny, RefusesNames}
use Rattle.cuckoo_map.specs.Callers.{CallerState, pass_of, caller_of, IsSameCaller, Replies, NotesFull, FindsHeldAmong, FindsHeldUnlessFull}

module _ {V : Type 0} where
  -- What the old name and the new one were bound to, before and after a rename that came to this.
  abbrev pub Renames : Renamed → List (Option V) → List (Option V) → Type 0
  Renames Done before after = (v : V) × (before ≡ Some v ∷ None ∷ []) × (after ≡ None ∷ Some v ∷ [])
  Renames Unbound before after = (o : Option V) × (before ≡ None ∷ o ∷ []) × (after ≡ before)
  Renames Occupied before after = (v w : V) × (before ≡ Some v ∷ Some w ∷ []) × (after ≡ before)

  -- the pass has noted that q was bound in stripes in which r was unbound and its buckets were full
  abbrev pub LacksSlot : Name → Name → PassState V → PassState V → Type 0
  LacksSlot q r p p2 = (hs : Stripes V) × FindsFull r hs p p2 × (get (bindings hs) q ≢ None)

  -- From p to p2 nothing was noted of room and no doubling made, or the first that was noted is that r had no slot in stripes in which q was bound.
  abbrev pub SeeksSlot : Name → Name → PassState V → PassState V → Type 0
  SeeksSlot q r p p2 = ((p2.view.no_slot ≡ p.view.no_slot) × DoublesNothing p p2)
      ⊎ ((hs : Stripes V) × (more : List (RoomNote V)) × (p2.view.no_slot ≡ more ++ noted r NoRoom hs ∷ p.view.no_slot) × (get (bindings hs) q ≢ None))

  -- Why q was not renamed to r: as a call on the two names is refused, or as an insertion of r is. Up to a moment m room may have been sought for r.
  abbrev pub IsNotRenamed : (Name → ℕ) → Settings → Name → Name → RoomFault → PassState V → PassState V → Type 0
  IsNotRenamed hash set q r (Keys why) p p2 = (m : PassState V) × HasSoughtRoom hash set r p m × RefusesNames hash set (q ∷ r ∷ []) m p2 why
  IsNotRenamed hash set q r (Room why) p p2 = (m : PassState V) × HasSoughtRoom hash set r p m × IsRefused hash set r why m p2

  -- Since p one try came to an answer, or r had no slot, or it was refused as a call on the two names is, and the key came back.
  pub record HasRenamedOnce {K : Type 0} (hash : Name → ℕ) (set : Settings) (q r : Name) (key : K) (result : Result (Result Renamed K) (NotRenamed K)) (p p2 : PassState V) : Type 0 where
    pub tried : IfOk result (λ tried. MatchResult tried
        (λ came. (before after : List (Option V)) × Renames came before after × IsAnswered (SessionOn (q ∷ r ∷ []) before after) Closed p p2)
        (λ back. (back ≡ key) × LacksSlot q r p p2))
    pub refused : IfErr result (λ back. (back.key ≡ key) × ((why : KeysRefused) × (back.why ≡ Keys why) × RefusesNames hash set (q ∷ r ∷ []) p p2 why))
    pub found : FindsAmong (IsStripeOfAny hash set (q ∷ r ∷ [])) p p2

  -- What was answered of a rename of q to r, with room for r.
  abbrev pub AnswersRename : (Name → ℕ) → Settings → Name → Name → Renamed → PassState V → PassState V → Type 0
  AnswersRename hash set q r came p p2 = (before after : List (Option V)) × Renames came before after × IsAnsweredWithRoom hash set r (SessionOn (q ∷ r ∷ []) before after) Closed p p2

  -- Since p one try under all stripes came to an answer, or was refused as an insertion of r is, and the key came back.
  pub record HasRenamedInAll {K : Type 0} (hash : Name → ℕ) (set : Settings) (q r : Name) (key : K) (result : Result Renamed (NotRenamed K)) (p p2 : PassState V) : Type 0 where
    pub answered : IfOk result (λ came. AnswersRename hash set q r came p p2)
    pub refused : IfErr result (λ back. (back.key ≡ key) × ((why : Why) × (back.why ≡ Room why) × IsRefused hash set r why p p2))
    pub found : FindsAmong (IsStripeIn set) p p2

  -- Since p a rename of q to r came to an answer, or was refused, and the key came back. Up to a moment m room may have been sought for r.
  pub record HasRenamed {K : Type 0} (hash : Name → ℕ) (set : Settings) (q r : Name) (key : K) (result : Result Renamed (NotRenamed K)) (p p2 : PassState V) : Type 0 where
    pub answered : IfOk result (λ came. (m : PassState V) × HasSoughtRoom hash set r p m × AnswersRename hash set q r came m p2)
    pub refused : IfErr result (λ back. (back.key ≡ key) × IsNotRenamed hash set q r back.why p p2)
    pub sought : SeeksSlot q r p p2
    pub found : FindsAmong (λ t. IsStripeOfAny hash set (q ∷ r ∷ []) t ⊎ SaysNoRoom r p p2) p p2

  -- What a rename of q to r leaves of its caller: it was answered at one moment, at which they went from these bindings to those; or it was refused, and the key came back. Up to a moment m room may have been sought for r.
  pub record RenameLeaves {K : Type 0} (hash : Name → ℕ) (q r : Name) (key : K) (result : Result Renamed (NotRenamed K)) (c d : CallerState V) : Type 0 where
    pub same : IsSameCaller c d
    pub answered : IfOk result (λ came. (before after : List (Option V)) × Renames came before after × Replies (SessionOn (q ∷ r ∷ []) before after) c d Closed)
    pub notes : OnOk result ((m : PassState V) × HasSoughtRoom hash c.table.settings r (pass_of c) m × NotesFull hash r (caller_of c.table m) d)
    pub refused : IfErr result (λ back. (back.key ≡ key) × IsNotRenamed hash c.table.settings q r back.why (pass_of c) (pass_of d))
    pub sought : SeeksSlot q r (pass_of c) (pass_of d)
    pub found : FindsHeldAmong (λ t. IsStripeOfAny hash c.table.settings (q ∷ r ∷ []) t ⊎ SaysNoRoom r (pass_of c) (pass_of d)) c d

  -- What a call that makes room for a name leaves of its caller.
  pub record RoomLeaves (hash : Name → ℕ) (q : Name) (result : Result (Unit {0}) Why) (c d : CallerState V) : Type 0 where
    pub same : IsSameCaller c d
    pub sought : OnOk result (HasSoughtRoom hash c.table.settings q (pass_of c) (pass_of d))
    pub refused : IfErr result (λ why. IsRefused hash c.table.settings q why (pass_of c) (pass_of d))
    pub found : FindsHeldUnlessFull hash q c d
