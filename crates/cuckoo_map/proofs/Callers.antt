-- What a call of the table leaves of the caller whose pass it had.
use Rattle.std.proofs.Common.{◌≡◌, ℕ, ◌≤◌, List, ◌++◌, Option, Result, Ok, Err, IfOk, IfErr, OnOk, refl, sym, ap, ◌∙◌, subst}
use Rattle.std.proofs.lemmas.Result.{IfOk-weaker}
use Rattle.ck_model.specs.declared.history.Act.{Act}
use Rattle.ck_model.specs.declared.history.Call.{Call}
use Rattle.ck_model.specs.declared.history.Call.TheVariants.{On, SessionOn}
use Rattle.ck_model.specs.declared.history.Reply.{Reply}
use Rattle.ck_model.specs.declared.history.Reply.TheVariants.{Closed}
use Rattle.ck_model.specs.declared.settings.Settings.{Settings}
use Rattle.ck_model.specs.Promise.{Name, Replied}
use Rattle.ck_model.specs.Contents.{layout_of, Stripes, IsStripeOf}
use Rattle.ck_core.specs.declared.view.RoomNote.{RoomNote}
use Rattle.ck_words.specs.Words.{WordsState}
use Rattle.ck_words.specs.Passes.{PassState}
use Rattle.ck_words.specs.Retries.{WatchesMore, DecidesThenGives, StaysBut, FindsAmong}
use Rattle.ck_words.specs.Answering.{IsAnswered, IsAnsweredBut, IsAnsweredOn}
use Rattle.ck_words.specs.Closing.{IsCaller}
use Rattle.ck_core.specs.State.{client_of}
use Rattle.ck_refusal.specs.declared.refusal.Busy.{Busy}
use Rattle.ck_refusal.specs.declared.refusal.KeysRefused.{KeysRefused}
use Rattle.ck_refusal.specs.declared.refusal.KeysRefused.TheVariants as refused
use Rattle.ck_refusal.specs.declared.refusal.Refused.{Refused}
use Rattle.ck_refusal.specs.declared.refusal.Why.{Why}
use Rattle.cuckoo_map.specs.Refusals.{IsBusyAmong, FindsOwnUnlessFull, IsRefused}
use Rattle.cuckoo_map.specs.Needed.{HasGrownFor}
use Rattle.cuckoo_map.specs.Queries.{HasQueried}
use Rattle.cuckoo_map.specs.Insertions.{IsInserted, HasInserted, HandsBack, HasSoughtRoom}
use Rattle.cuckoo_map.specs.Renames.{RoomLeaves}
use Rattle.cuckoo_map.proofs.Counted.{grown_alike}
use Rattle.cuckoo_map.specs.Callers.{CallerState, caller_of, pass_of, IsSameCaller, Replies, RepliesOn, KeepsNotesBut, KeepsNotes, NotesFull, QueryLeaves, InsertionLeaves, KeysLeave}
use Rattle.cuckoo_map.specs.SeveralKeys.{IsStripeOfAny, RefusesNames, HasQueriedAll}

-- a stripe of the name
abbrev pub OfName : (Name → ℕ) → Name → WordsState → ℕ → Type 0
OfName hash q w t = IsStripeOf (layout_of hash w.settings) q t

-- a fact that holds in both cases
pub by_result : {A E Z : Type 0} {P : A → Type 0} {Q : E → Type 0} (r : Result A E) → IfOk r P → IfErr r Q → ((a : A) → P a → Z) → ((e : E) → Q e → Z) → Z
by_result (Ok a) p q f g = f a p
by_result (Err e) p q f g = g e q

-- a fact that holds of any success
ok_anyway : {A E : Type 0} (r : Result A E) (P : Type 0) → OnOk r P → IfOk r (λ _. P)
ok_anyway (Ok a) P p = p
ok_anyway (Err e) P p = tt

module _ {V : Type 0} where
  -- the pass of a caller is its own
  pub as_pass : {w : WordsState} {p : PassState V} → IsCaller w p → pass_of (caller_of w p) ≡ p
  as_pass {w} {p} caller = λ j. record p { table = sym caller.own.0 j; view = record p.view { held = sym caller.idle.1 j; others = sym caller.alone j }; stripes = sym caller.idle.0 j }

  -- a refused call on several names keeps its caller's number
  pub by_kept : (hash : Name → ℕ) (set : Settings) (names : List Name) (p q : PassState V) (e : KeysRefused) → RefusesNames hash set names p q e → q.view.by ≡ p.view.by
  by_kept hash set names p q (refused.Busy t) h = h.stays.by
  by_kept hash set names p q (refused.Twice i) h = ap (λ (x : PassState V). x.view.by) h.1

  -- What a call leaves of its caller that binds no new key: it was answered, or found a stripe of these busy.
  pub record CallLeaves {A E : Type 0} (T : A → Type 0) (P : WordsState → ℕ → Type 0) (stripe : E → ℕ) (r : Result A E) (c d : CallerState V) : Type 0 where
    pub same : IsSameCaller c d
    pub answered : IfOk r T
    pub notes : OnOk r (KeepsNotes c d)
    pub busy : IfErr r (λ e. IsBusyAmong (P c.table) c.table.settings (stripe e) (pass_of c) (pass_of d))
    pub found : FindsAmong (P c.table) (pass_of c) (pass_of d)

  -- the call had the pass p of the caller c, and left q
  module _ {w : WordsState} {c : CallerState V} (p q : PassState V) (is : caller_of w p ≡ c) where
    pub same_caller : q.view.by ≡ p.view.by → IsSameCaller c (caller_of w q)
    same_caller by = record {
      table = ap (λ (x : CallerState V). x.table) is;
      by = by ∙ ap (λ (x : CallerState V). x.client.by) is;
    }

    pub keeps_notes : {more : List (RoomNote V)} {n : ℕ} {hs : List (Stripes V)} → StaysBut more (record p.view { seen = q.view.seen; mine = q.view.mine; watched = q.view.watched; steps = q.view.steps; doublings = n; grown_from = hs }) q.view → WatchesMore p.view q.view → DecidesThenGives p.view q.view → KeepsNotesBut more c (caller_of w q)
    keeps_notes {more} s watched decided = record {
      settings = s.settings ∙ ap (λ (x : CallerState V). x.client.settings) is;
      told = subst (λ (x : CallerState V). x.notes.told ≤ q.view.told) is s.told;
      heard = (s.heard.0 ∙ ap (λ (x : CallerState V). x.notes.heard) is, s.heard.1 ∙ ap (λ (x : CallerState V). x.notes.heard_told) is, s.heard.2 ∙ ap (λ (x : CallerState V). x.notes.heard_watched) is);
      watched = subst (λ (x : CallerState V). WatchesMore (pass_of x).view (pass_of (caller_of w q)).view) is watched;
      decided = subst (λ (x : CallerState V). DecidesThenGives (pass_of x).view (pass_of (caller_of w q)).view) is decided;
      no_slot = s.no_slot ∙ ap (λ (x : CallerState V). more ++ x.notes.no_slot) is;
    }

    -- it was answered
    pub replied : (call : Call V) {more : List (RoomNote V)} {reply : Reply V} {n : ℕ} {hs : List (Stripes V)} → IsAnsweredBut more call reply (record p { view = record p.view { doublings = n; grown_from = hs } }) q → Replied call reply c.client (client_of q.view)
    replied call {more} {reply} {n} {hs} a = subst (λ (x : CallerState V). Replied call reply x.client (client_of q.view)) is a.replied

    pub replies : (call : Call V) (reply : Reply V) → IsAnswered call reply p q → Replies call c (caller_of w q) reply × (IsSameCaller c (caller_of w q) × KeepsNotes c (caller_of w q))
    replies call reply a = (replied call a, (same_caller a.stays.by, (keeps_notes a.stays a.watched a.decided, a.stays.doublings ∙ ap (λ (x : CallerState V). x.notes.doublings) is, a.stays.grown_from ∙ ap (λ (x : CallerState V). x.notes.grown_from) is)))

    pub replies_on : (name : Name) (act : Act V) (reply : Reply V) → IsAnsweredOn name p q act reply → RepliesOn name c (caller_of w q) act reply × (IsSameCaller c (caller_of w q) × KeepsNotes c (caller_of w q))
    replies_on name act reply a = replies (On name act) reply a

    -- what was made of doublings is what the caller has made
    pub grown_caller : {hash : Name → ℕ} {name : Name} → HasGrownFor hash w.settings name p q → HasGrownFor hash c.table.settings name (pass_of c) (pass_of (caller_of w q))
    grown_caller {hash} {name} g =
        subst (λ (x : CallerState V). HasGrownFor hash x.table.settings name (pass_of x) (pass_of (caller_of w q))) is (grown_alike p q (pass_of (caller_of w p)) (pass_of (caller_of w q)) refl refl refl (refl, refl) refl (refl, refl) refl refl g)

    replies_inserting : (hash : Name → ℕ) (name : Name) (act : Act V) (reply : Reply V) → IsInserted hash w.settings name p q act reply → RepliesOn name c (caller_of w q) act reply × (IsSameCaller c (caller_of w q) × NotesFull hash name c (caller_of w q))
    replies_inserting hash name act reply a = (replied (On name act) a.2, (same_caller a.2.stays.by, (a.0, a.1, keeps_notes a.2.stays a.2.watched a.2.decided, grown_caller a.3)))

    -- the table that the call was made on, v, is the caller's
    module _ (before : IsCaller w p) {v : WordsState} (at : v ≡ w) (after : IsCaller v q) where
      -- what holds of the passes holds of those of the callers
      pub over : (P : WordsState → PassState V → PassState V → Type 0) → P v p q → P c.table (pass_of c) (pass_of (caller_of w q))
      over P h =
          subst (λ (x : CallerState V). P x.table (pass_of x) (pass_of (caller_of w q))) is
          (subst (λ (x : PassState V × PassState V). P w x.0 x.1) (λ j. (sym (as_pass before) j, sym (as_pass (subst (λ (x : WordsState). IsCaller x q) at after)) j)) (subst (λ (x : WordsState). P x p q) at h))

      pub query : {A E : Type 0} {T : A → Type 0} (P : WordsState → ℕ → Type 0) (stripe : E → ℕ) (r : Result A E) → IfOk r (λ a. T a × (IsSameCaller c (caller_of w q) × KeepsNotes c (caller_of w q)))
          → IfErr r (λ e. IsBusyAmong (P v) v.settings (stripe e) p q) → FindsAmong (P v) p q → CallLeaves T P stripe r c (caller_of w q)
      query {A} {E} {T} P stripe r told busy found = record {
        same = by_result r told busy (λ a h. h.1.0) (λ e h. same_caller h.stays.by);
        answered = IfOk-weaker r _ _ (λ a h. h.0) told;
        notes = IfOk-weaker r _ _ (λ a h. h.1.1) told;
        busy = over (λ x a b. IfErr r (λ e. IsBusyAmong (P x) x.settings (stripe e) a b)) busy;
        found = over (λ x a b. FindsAmong (P x) a b) found;
      }

      -- where it was a query of one name
      pub query_on : {A : Type 0} {answers : (Act V → Reply V → Type 0) → A → Type 0} (hash : Name → ℕ) (name : Name) (r : Result A Busy)
          → (((act : Act V) (reply : Reply V) → IsAnsweredOn name p q act reply → RepliesOn name c (caller_of w q) act reply × (IsSameCaller c (caller_of w q) × KeepsNotes c (caller_of w q)))
          → (a : A) → answers (IsAnsweredOn name p q) a → answers (RepliesOn name c (caller_of w q)) a × (IsSameCaller c (caller_of w q) × KeepsNotes c (caller_of w q)))
          → HasQueried answers hash v.settings name r p q → QueryLeaves answers hash name r c (caller_of w q)
      query_on {A} {answers} hash name r told did =
          let left = query {T = answers (RepliesOn name c (caller_of w q))} (OfName hash name) (λ busy. busy.0) r (IfOk-weaker r _ _ (told (replies_on name)) did.answered) did.busy did.found in
          record { same = left.same; answered = left.answered; notes = left.notes; busy = left.busy; found = left.found }

      -- where it was a call on several names
      pub query_all : {A : Type 0} {P : A → List (Option V) → List (Option V) → Type 0} (hash : Name → ℕ) (names : List Name) (r : Result A KeysRefused)
          → HasQueriedAll P hash v.settings names r p q → KeysLeave P hash names r c (caller_of w q)
      query_all {A} {P} hash names r did =
          let told : IfOk r (λ a. ((old new : List (Option V)) × P a old new × Replies (SessionOn names old new) c (caller_of w q) Closed) × (IsSameCaller c (caller_of w q) × KeepsNotes c (caller_of w q))) =
          IfOk-weaker r _ _ (λ a h. let l = replies (SessionOn names h.0 h.1) Closed h.3 in ((h.0, h.1, h.2, l.0), l.1)) did.answered in
          record {
            same = by_result r told did.refused (λ a h. h.1.0) (λ e h. same_caller (by_kept hash v.settings names p q e h));
            answered = IfOk-weaker r _ _ (λ a h. h.0) told;
            notes = IfOk-weaker r _ _ (λ a h. h.1.1) told;
            refused = over (λ x a b. IfErr r (RefusesNames hash x.settings names a b)) did.refused;
            found = over (λ x a b. FindsAmong (IsStripeOfAny hash x.settings names) a b) did.found;
          }

      pub insertion : {A K X : Type 0} {answers : (Act V → Reply V → Type 0) → A → Type 0} (hash : Name → ℕ) (name : Name) (key : K) (x : X) (r : Result A (Refused K X))
          → (((act : Act V) (reply : Reply V) → IsInserted hash w.settings name p q act reply → RepliesOn name c (caller_of w q) act reply × (IsSameCaller c (caller_of w q) × NotesFull hash name c (caller_of w q)))
          → (a : A) → answers (IsInserted hash w.settings name p q) a → answers (RepliesOn name c (caller_of w q)) a × (IsSameCaller c (caller_of w q) × NotesFull hash name c (caller_of w q)))
          → HasInserted answers hash v.settings name key x r p q → InsertionLeaves answers hash name key x r c (caller_of w q)
      insertion {A} {K} {X} {answers} hash name key x r told there =
          let did = subst (λ (t : WordsState). HasInserted answers hash t.settings name key x r p q) at there in
          let said = IfOk-weaker r _ (λ a. answers (RepliesOn name c (caller_of w q)) a × (IsSameCaller c (caller_of w q) × NotesFull hash name c (caller_of w q))) (told (replies_inserting hash name)) did.answered in
          record {
            same = by_result r said did.refused (λ a h. h.1.0) (λ e h. same_caller h.2.stays.by);
            answered = IfOk-weaker r _ _ (λ a h. h.0) said;
            notes = IfOk-weaker r _ _ (λ a h. h.1.1) said;
            refused = over (λ t a b. IfErr r (HandsBack hash t.settings name key x a b)) there.refused;
            found = over (λ t a b. FindsOwnUnlessFull hash t.settings name a b) there.found;
          }

      -- where it made room for a name
      pub room_left : (hash : Name → ℕ) (name : Name) (r : Result (Unit {0}) Why) → OnOk r (HasSoughtRoom hash v.settings name p q) → IfErr r (λ why. IsRefused hash v.settings name why p q) → FindsOwnUnlessFull hash v.settings name p q → RoomLeaves hash name r c (caller_of w q)
      room_left hash name r sought refused found = record {
        same = by_result r (ok_anyway r _ sought) refused (λ a h. same_caller h.stays.by) (λ e h. same_caller h.stays.by);
        sought = over (λ t a b. OnOk r (HasSoughtRoom hash t.settings name a b)) sought;
        refused = over (λ t a b. IfErr r (λ why. IsRefused hash t.settings name why a b)) refused;
        found = over (λ t a b. FindsOwnUnlessFull hash t.settings name a b) found;
      }
