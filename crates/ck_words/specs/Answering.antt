-- What an answered call leaves of its pass.
use Rattle.std.specs.Prelude.{◌≡◌, ℕ, List, [], Some, reverse}
use Rattle.std.specs.FinMap.{entries}
use Rattle.ck_model.specs.declared.history.Act.{Act}
use Rattle.ck_model.specs.declared.history.Call.{Call}
use Rattle.ck_model.specs.declared.history.Call.TheVariants.{On, SessionOn, Session}
use Rattle.ck_model.specs.declared.history.Reply.{Reply}
use Rattle.ck_model.specs.declared.settings.Settings.{Settings}
use Rattle.ck_model.specs.Promise.{Name, bound_in, Follows, Replied}
use Rattle.ck_model.specs.Contents.{layout_of, Lawful, bindings}
use Rattle.ck_model.specs.Sections.{HasAll, Section}
use Rattle.ck_stripe.specs.Stripes.{contents_of}
use Rattle.ck_core.specs.declared.view.RoomNote.{RoomNote}
use Rattle.ck_core.specs.State.{client_of, found_held}
use Rattle.ck_words.specs.Words.{WordsState}
use Rattle.ck_words.specs.Passes.{PassState, IsPassOf, IsIdle}
use Rattle.ck_words.specs.Retries.{WatchesMore, DecidesThenGives, StaysBut, as_doubled}
use Rattle.ck_words.specs.Holding.{IsDoubledBy}

module _ {V : Type 0} where
  -- From what they contained when they were taken, the held stripes went to what they contain now by this call with this reply.
  abbrev pub HasDone : (Name → ℕ) → Settings → Call V → Reply V → PassState V → Type 0
  HasDone hash set call reply p = Lawful (layout_of hash set) (reverse p.view.held) → Section (layout_of hash set) (reverse p.view.held) call reply (contents_of p.stripes)

  -- the session of a pass that holds all stripes: from the pairs that they contained when they were taken to those that they contain now
  abbrev pub session_of : PassState V → Call V
  session_of p = Session (entries (bindings (reverse p.view.held))) (entries (bindings (contents_of p.stripes)))

  -- the session of a pass on these names: from what the held stripes bound them to when they were taken to what they bind them to now
  abbrev pub session_on : List Name → PassState V → Call V
  session_on qs p = SessionOn qs (bound_in (bindings (reverse p.view.held)) qs) (bound_in (bindings (contents_of p.stripes)) qs)

  -- the entry of this call stands right behind what the pass had seen
  abbrev pub FollowsSeen : Call V → Reply V → PassState V → PassState V → Type 0
  FollowsSeen call reply p q = (by : ℕ) × (p.view.by ≡ Some by) × Follows (client_of p.view) (record { by = by; call = call; reply = reply }) (client_of q.view)

  -- The call was answered by this reply. The pass has noted more that names found no room; the rest is as it was.
  pub record IsAnsweredBut (more : List (RoomNote V)) (call : Call V) (reply : Reply V) (p q : PassState V) : Type 0 where
    pub replied : Replied call reply (client_of p.view) (client_of q.view)
    pub watched : WatchesMore p.view q.view
    pub decided : DecidesThenGives p.view q.view
    pub stays : StaysBut more (record p.view { seen = q.view.seen; mine = q.view.mine; watched = q.view.watched; steps = q.view.steps }) q.view

  -- and it has noted so of none
  abbrev pub IsAnswered : Call V → Reply V → PassState V → PassState V → Type 0
  IsAnswered = IsAnsweredBut []

  -- the call was this act on the name
  abbrev pub IsAnsweredOn : Name → PassState V → PassState V → Act V → Reply V → Type 0
  IsAnsweredOn name p q act reply = IsAnswered (On name act) reply p q

  -- The call was decided with the reply that the stripes give it, and all stripes went home. Where all stripes of the table were held, nobody has come between. The caller's doublings are counted.
  pub record HasCommitted (hash : Name → ℕ) (w : WordsState) (call : Call V) (p q : PassState V) : Type 0 where
    pub own : IsPassOf w q
    pub idle : IsIdle q
    pub answered : (reply : Reply V) → HasDone hash w.settings call reply p → IsAnswered call reply (as_doubled p q) q
    pub follows : (reply : Reply V) → HasDone hash w.settings call reply p → HasAll (layout_of hash w.settings) p.view.held → FollowsSeen call reply p q
    pub by : q.view.by ≡ p.view.by
    pub others : q.view.others ≡ p.view.others
    pub found : found_held q.view ≡ found_held p.view
    pub doubled : IsDoubledBy p q
