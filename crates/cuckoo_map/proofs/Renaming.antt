-- Renames of a key whose stripes are held, with those of its new name.
use Rattle.std.proofs.Common.{◌≡◌, ◌≢◌, ◌⊎◌, ℕ, List, [], ◌∷◌, ◌++◌, append_assoc, reverse, Option, Some, None, Result, Ok, Err, IfOk, IfErr, OnErr, ⊎_elim, inl, inr, refl, sym, ap, ◌∙◌, subst}
use Rattle.std.proofs.lemmas.Option.{none-some}
use Rattle.std.proofs.lemmas.List.Elements.{All-nil, All-cons, All-append, Contains-push}
use Rattle.std.proofs.lemmas.Result.{IfOk-weaker, IfErr-weaker}
use Rattle.std.specs.Prelude.{MatchResult}
use Rattle.std.specs.FinMap.{get}
use Rattle.ck_model.specs.declared.history.Act.TheVariants.{Find, Insert, Erase}
use Rattle.ck_model.specs.declared.history.Call.TheVariants.{On, SessionOn}
use Rattle.ck_model.specs.declared.history.Reason.TheVariants.{NoRoom}
use Rattle.ck_model.specs.declared.history.Reply.TheVariants.{Was, New, Closed}
use Rattle.ck_model.specs.declared.settings.Settings.{Settings}
use Rattle.ck_model.specs.Promise.{Name, Map, Step, Answers, Replied, bound_in}
use Rattle.ck_model.specs.Numbered.{IsIn, numbers}
use Rattle.ck_model.specs.Contents.{Layout, layout, layout_of, Lawful, bindings}
use Rattle.ck_model.specs.Paths.{HasNoRoom}
use Rattle.ck_model.specs.Sections.{IdentitySection}
use Rattle.ck_stripe.specs.Stripe.{StripeState}
use Rattle.ck_stripe.specs.Stripes.{contents_of}
use Rattle.ck_section.specs.declared.two_keys.Renamed.{Renamed}
use Rattle.ck_section.specs.declared.two_keys.Renamed.TheVariants.{Done, Unbound, Occupied}
use Rattle.ck_section.specs.Calls.{IsCall, IsWithoutRoom, ChangesContents}
use Rattle.ck_section.specs.TwoNames.{FindsBound, RenamesTo, OnUnchanged}
use Rattle.ck_section.proofs.Kept.{has_both, power_kept}
use Rattle.ck_core.specs.declared.view.RoomNote.{RoomNote}
use Rattle.ck_core.specs.declared.view.View.{View}
use Rattle.ck_core.specs.State.{client_of}
use Rattle.ck_core.specs.Steps.{noted}
use Rattle.ck_words.specs.declared.stripe_set.StripeSet.{StripeSet}
use Rattle.ck_words.specs.Words.{WordsState}
use Rattle.ck_words.specs.Passes.{PassState}
use Rattle.ck_words.specs.Retries.{FindsAmong, as_doubled}
use Rattle.ck_words.specs.Answering.{HasDone, HasCommitted, IsAnswered, session_on}
use Rattle.ck_words.specs.Closing.{IsCaller}
use Rattle.ck_words.proofs.Renewals.{done_then}
use Rattle.ck_words.proofs.Staying.{stays_same, stays_then}
use Rattle.ck_refusal.specs.declared.refusal.KeysRefused.{KeysRefused}
use Rattle.ck_refusal.specs.declared.refusal.KeysRefused.TheVariants as keys
use Rattle.ck_refusal.specs.declared.refusal.RoomFault.{RoomFault}
use Rattle.ck_refusal.specs.declared.refusal.RoomFault.TheVariants as fault
use Rattle.ck_refusal.specs.declared.refusal.NotRenamed.{NotRenamed}
use Rattle.ck_refusal.specs.declared.refusal.Why.{Why}
use Rattle.cuckoo_map.specs.Refusals.{FindsOwnUnlessFull, SaysOf, SaysNoRoom, IsRefused}
use Rattle.cuckoo_map.specs.Insertions.{HasFoundNoRoom, HasRoomInAll, HasSoughtRoom}
use Rattle.cuckoo_map.specs.Needed.{DoublesNothing}
use Rattle.cuckoo_map.specs.Displacing.{FindsAny}
use Rattle.cuckoo_map.specs.SeveralKeys.{IsStripeOfAny, RefusesNames, bound_to}
use Rattle.cuckoo_map.specs.LockedKeys.{HoldsKeys}
use Rattle.cuckoo_map.specs.Renames.{Renames, LacksSlot, SeeksSlot, IsNotRenamed, AnswersRename, HasRenamedOnce, HasRenamedInAll, HasRenamed, RenameLeaves}
use Rattle.cuckoo_map.specs.Callers.{CallerState, caller_of, pass_of, IsSameCaller, Replies, NotesFull}
use Rattle.cuckoo_map.proofs.Callers.{by_result, as_pass, by_kept, same_caller, keeps_notes, grown_caller, over}
use Rattle.cuckoo_map.proofs.Calls.{replied_seen, replied_since, answered_since}
use Rattle.cuckoo_map.proofs.Counted.{one_of_lawful, loosely, counted_back, grown_by, grown_none, grown_until}
use Rattle.cuckoo_map.proofs.Displacing.{any_on, any_among}
use Rattle.cuckoo_map.proofs.HeldKeys.{value_found, without_slot, held_as_is, acted}
use Rattle.cuckoo_map.proofs.Sessions.{found_reply}
use Rattle.cuckoo_map.proofs.Trying.{HasTried, tried_same, refused_after, sought_since}

module _ {V : Type 0} where
  -- what was taken was there, and isn't
  took : (o o2 : Option V) (v : V) → Answers Erase o (Was (Some v)) o2 → (o ≡ Some v) × (o2 ≡ None)
  took (Some x) o2 v a = let e = a.0 in ((let same : Some x ≡ Some v = cc in same), a.1)
  took None o2 v a = let e = a.0 in absurd cc

  -- what was put where nothing was is there
  gave : (o o2 : Option V) (v : V) → Answers (Insert v) o New o2 → (o ≡ None) × (o2 ≡ Some v)
  gave (Some x) o2 v a = let e = a.0 in absurd cc
  gave None o2 v a = (refl, a.1)

  -- the value of one name went to another
  moved : (q r : Name) → q ≢ r → (m m1 m2 : Map V) (v : V) → Step m (On q Erase) (Was (Some v)) m1 → Step m1 (On r (Insert v)) New m2 → Renames Done (get m q ∷ get m r ∷ []) (get m2 q ∷ get m2 r ∷ [])
  moved q r apart m m1 m2 v first last =
      let old = took (get m q) (get m1 q) v first.0 in
      let new = gave (get m1 r) (get m2 r) v last.0 in
      let lacked : get m r ≡ None = sym (first.1 r (λ e. apart (sym e))) ∙ new.0 in
      let gone : get m2 q ≡ None = last.1 q apart ∙ old.1 in
      (v, (λ i. old.0 i ∷ lacked i ∷ []), (λ i. gone i ∷ new.1 i ∷ []))

  module _ {hash : Name → ℕ} {w : WordsState} {stripes : StripeSet} {q r : Name} {p : PassState V} (l : HoldsKeys hash w stripes (q ∷ r ∷ []) p) {s : ℕ} (at : s ≡ stripes.s)
      (m : PassState V) (view : m.view ≡ p.view) (table : m.table ≡ p.table) (as_is : m.stripes ≡ p.stripes) where
    -- the names are not one
    pub apart : q ≢ r
    apart e = l.different.0 (inl (sym e))

    module _ (z : PassState V) (view_left : z.view ≡ m.view) (table_left : z.table ≡ m.table) where
      -- the pass is as it was
      pub left_as_is : z.stripes ≡ m.stripes → z ≡ p
      left_as_is same = λ i. record { table = (table_left ∙ table) i; view = (view_left ∙ view) i; stripes = (same ∙ as_is) i }

      same_bound : z.stripes ≡ m.stripes → bound_to (q ∷ r ∷ []) z ≡ bound_to (q ∷ r ∷ []) p
      same_bound same = ap (λ (x : PassState V). bound_to (q ∷ r ∷ []) x) (left_as_is same)

      -- what came of it
      pub renamed_keys : (came : Renamed) → RenamesTo (record { hash = hash; s = s; old = m.stripes; new = z.stripes }) q r came → OnUnchanged came (z.stripes ≡ m.stripes)
          → Renames came (bound_to (q ∷ r ∷ []) p) (bound_to (q ∷ r ∷ []) z) × HoldsKeys hash w stripes (q ∷ r ∷ []) z
      renamed_keys Done x same =
          let q1 : PassState V = record { table = m.table; view = m.view; stripes = x.between } in
          let first = acted l refl q (inl refl) at m view table as_is q1 refl refl x.first Erase (Was (Some x.value)) x.erased in
          let last = acted first.1 refl r (inr (inl refl)) at q1 refl refl refl z view_left table_left x.last (Insert x.value) New x.inserted in
          (moved q r apart _ _ _ x.value first.0.step last.0.step, last.1)
      renamed_keys Unbound x same =
          let none : get (bindings (contents_of p.stripes)) q ≡ None = value_found l refl q (inl refl) at m view table as_is None z.stripes x in
          ((get (bindings (contents_of p.stripes)) r, (λ i. none i ∷ get (bindings (contents_of p.stripes)) r ∷ []), same_bound same), held_as_is l refl q (inl refl) at m view table as_is z view_left table_left same)
      renamed_keys Occupied x same =
          let one : get (bindings (contents_of p.stripes)) q ≡ Some x.0.0 = value_found l refl q (inl refl) at m view table as_is (Some x.0.0) z.stripes x.0.1 in
          let two : get (bindings (contents_of p.stripes)) r ≡ Some x.1.0 = value_found l refl r (inr (inl refl)) at m view table as_is (Some x.1.0) z.stripes x.1.1 in
          ((x.0.0, x.1.0, (λ i. one i ∷ two i ∷ []), same_bound same), held_as_is l refl q (inl refl) at m view table as_is z view_left table_left same)

      -- and where the key came back
      pub renamed_held : {K : Type 0} (o : Result Renamed K) → IfOk o (RenamesTo (record { hash = hash; s = s; old = m.stripes; new = z.stripes }) q r)
          → MatchResult o (λ came. OnUnchanged came (z.stripes ≡ m.stripes)) (λ _. z.stripes ≡ m.stripes)
          → IfOk o (λ came. Renames came (bound_to (q ∷ r ∷ []) p) (bound_to (q ∷ r ∷ []) z)) × HoldsKeys hash w stripes (q ∷ r ∷ []) z
      renamed_held (Ok came) x same = renamed_keys came x same
      renamed_held (Err back) x same = (tt, held_as_is l refl q (inl refl) at m view table as_is z view_left table_left same)

      -- the new name had no slot
      pub refused_held : {K : Type 0} (key : K) (o : Result Renamed K) → IfErr o (λ back. (back ≡ key) × IsWithoutRoom hash s m.stripes r)
          → MatchResult o (λ came. OnUnchanged came (z.stripes ≡ m.stripes)) (λ _. z.stripes ≡ m.stripes)
          → IfErr o (λ back. (back ≡ key) × (z ≡ p) × HasNoRoom (layout_of hash w.settings) (contents_of p.stripes) r)
      refused_held key (Ok came) x same = tt
      refused_held key (Err back) x same = (x.0, left_as_is same, without_slot l refl r (inr (inl refl)) at m view table as_is x.1)

      -- where the old one was bound
      pub bound_held : {K : Type 0} (o : Result Renamed K) → IfErr o (λ _. FindsBound (record { hash = hash; s = s; old = m.stripes; new = z.stripes }) q) → OnErr o (get (bindings (contents_of p.stripes)) q ≢ None)
      bound_held (Ok came) x = tt
      bound_held (Err back) x =
          let one : get (bindings (contents_of p.stripes)) q ≡ Some x.0 = value_found l refl q (inl refl) at m view table as_is (Some x.0) z.stripes x.1 in
          λ none. none-some x.0 (sym none ∙ one)

-- The stripes of both names are among lawful ones, which go from old to new by a rename.
module _ {V : Type 0} {hash : Name → ℕ} {s max : ℕ} {q r : Name} (apart : q ≢ r) (old new : List (StripeState V)) (sound : Lawful (layout hash s max) (contents_of old)) where
  -- what the names are bound to
  abbrev pub bound_both : List (StripeState V) → List (Option V)
  bound_both ss = bound_in (bindings (contents_of ss)) (q ∷ r ∷ [])

  -- What it came to, and that it did nothing else.
  pub record HasMoved (came : Renamed) : Type 0 where
    pub renames : Renames came (bound_both old) (bound_both new)
    pub same : numbers (contents_of new) ≡ numbers (contents_of old)
    pub lawful : Lawful (layout hash s max) (contents_of new)
    pub others : (x : Name) → ¬ (IsIn x (q ∷ r ∷ [])) → get (bindings (contents_of new)) x ≡ get (bindings (contents_of old)) x

  stays_put : (came : Renamed) → new ≡ old → Renames came (bound_both old) (bound_both old) → HasMoved came
  stays_put came same came_to = record {
    renames = subst (λ (ss : List (StripeState V)). Renames came (bound_both old) (bound_both ss)) (sym same) came_to;
    same = ap (λ (ss : List (StripeState V)). numbers (contents_of ss)) same;
    lawful = subst (λ (ss : List (StripeState V)). Lawful (layout hash s max) (contents_of ss)) (sym same) sound;
    others = λ x out. ap (λ (ss : List (StripeState V)). get (bindings (contents_of ss)) x) same;
  }

  -- what a name that was looked up is bound to
  looked : (x : Name) (o : Option V) → IsCall (record { hash = hash; s = s; old = old; new = new }) x Find (Was o) → get (bindings (contents_of old)) x ≡ o
  looked x o call = sym (found_reply (get (bindings (contents_of old)) x) o _ (call max sound).step.0)

  pub moved_names : (came : Renamed) → RenamesTo (record { hash = hash; s = s; old = old; new = new }) q r came → OnUnchanged came (new ≡ old) → HasMoved came
  moved_names Done x same =
      let first = x.erased max sound in
      let last = x.inserted max first.renewed.lawful in
      record {
        renames = moved q r apart _ _ _ x.value first.step last.step;
        same = last.renewed.same ∙ first.renewed.same;
        lawful = last.renewed.lawful;
        others = λ y out. last.step.1 y (λ e. out (inr (inl (sym e)))) ∙ first.step.1 y (λ e. out (inl (sym e)));
      }
  moved_names Unbound x same =
      let o : Option V = get (bindings (contents_of old)) r in
      let none : get (bindings (contents_of old)) q ≡ None = looked q None x in
      stays_put Unbound same (o, (λ i. none i ∷ o ∷ []), refl)
  moved_names Occupied x same =
      let one : get (bindings (contents_of old)) q ≡ Some x.0.0 = looked q (Some x.0.0) x.0.1 in
      let two : get (bindings (contents_of old)) r ≡ Some x.1.0 = looked r (Some x.1.0) x.1.1 in
      stays_put Occupied same (x.0.0, x.1.0, (λ i. one i ∷ two i ∷ []), refl)

-- All stripes were taken, with room for r, as p1. A rename of q to r left them as p2, and it was z when they had gone home.
module _ {V : Type 0} (hash : Name → ℕ) (w : WordsState) (q r : Name) (apart : q ≢ r) (p p1 : PassState V) (h : HasRoomInAll hash w.settings r p p1) (p2 : PassState V) (view : p2.view ≡ p1.view) (rest : ChangesContents p1.stripes p2.stripes)
    {s : ℕ} (at : s ≡ w.settings.s) (came : Renamed) (to : RenamesTo (record { hash = hash; s = s; old = p1.stripes; new = p2.stripes }) q r came) (same : OnUnchanged came (p2.stripes ≡ p1.stripes)) where
  abbrev k : Layout
  k = layout_of hash w.settings

  abbrev names : List Name
  names = q ∷ r ∷ []

  was : IdentitySection k (reverse p1.view.held) (contents_of p1.stripes)
  was = h.renewed h.taken

  did : HasMoved {hash = hash} {s = w.settings.s} {max = w.settings.max} apart p1.stripes p2.stripes was.renewed.lawful came
  did = moved_names apart p1.stripes p2.stripes was.renewed.lawful came (subst (λ (n : ℕ). RenamesTo (record { hash = hash; s = n; old = p1.stripes; new = p2.stripes }) q r came) at to) same

  before : bound_in (bindings (reverse p2.view.held)) names ≡ bound_in (bindings (contents_of p1.stripes)) names
  before = ap (λ (v : View V). bound_in (bindings (reverse v.held)) names) view ∙ ap (λ (m : Map V). bound_in m names) (sym was.same_bindings)

  -- what was done to them is a session on both names
  pub done_in_all : HasDone hash w.settings (session_on names p2) Closed p2
  done_in_all = done_then hash w.settings p1 p2 (ap (λ (v : View V). v.held) view) h.renewed (session_on names p2) Closed (λ lawful. record {
    renewed = record { same = did.same; lawful = did.lawful; power = inl (λ t u c d a b. one_of_lawful k (contents_of p2.stripes) did.lawful u d b ∙ (power_kept p1.stripes p2.stripes rest ∙ sym (one_of_lawful k (contents_of p1.stripes) was.renewed.lawful t c a))) };
    owns = λ x i. has_both w.settings.s p1.stripes h.all hash x w.settings.max;
    step = (refl, ((λ e. ⊎_elim (λ same. apart (sym same)) (λ none. none) e), ((λ none. none), tt)), sym before, refl, did.others);
  })

  -- which was answered, with room for r
  pub answered_in_all : (z : PassState V) → HasCommitted hash w (session_on names p2) p2 z → AnswersRename hash w.settings q r came p z
  answered_in_all z c =
      let a = c.answered Closed done_in_all in
      let told : IsAnswered (SessionOn names (bound_in (bindings (contents_of p1.stripes)) names) (bound_in (bindings (contents_of p2.stripes)) names)) Closed (as_doubled p2 z) z =
      subst (λ (x : List (Option V)). IsAnswered (SessionOn names x (bound_in (bindings (contents_of p2.stripes)) names)) Closed (as_doubled p2 z) z) before a in (
        bound_in (bindings (contents_of p1.stripes)) names,
        bound_in (bindings (contents_of p2.stripes)) names,
        did.renames,
        ([], All-nil _, answered_since [] p p1 p2 z h.stays view _ Closed told, grown_by p1 p2 z view rest c.doubled p h.grown h.stays (replied_seen a.replied)),
      )

module _ {V : Type 0} where
  -- no room has been sought
  sought_none : {hash : Name → ℕ} {set : Settings} {r : Name} (p : PassState V) → HasSoughtRoom hash set r p p
  sought_none p = record { more = []; own = All-nil _; stays = stays_same p.view; grown = grown_none p p (refl, refl) }

  -- a refused call on several names notes nothing
  notes_nothing : (hash : Name → ℕ) (set : Settings) (qs : List Name) (why : KeysRefused) (p z : PassState V) → RefusesNames hash set qs p z why → (z.view.no_slot ≡ p.view.no_slot) × DoublesNothing p z
  notes_nothing hash set qs (keys.Busy t) p z h = (h.stays.no_slot, (h.stays.doublings, h.stays.grown_from))
  notes_nothing hash set qs (keys.Twice i) p z h = (ap (λ (x : PassState V). x.view.no_slot) h.1, (ap (λ (x : PassState V). x.view.doublings) h.1, ap (λ (x : PassState V). x.view.grown_from) h.1))

  -- one try alone
  module _ {K : Type 0} (hash : Name → ℕ) (set : Settings) (q r : Name) (key : K) (p z : PassState V) where
    -- which made no room
    answers_once : (came : Renamed) → HasRenamedOnce hash set q r key (Ok (Ok came)) p z → AnswersRename hash set q r came p z
    answers_once came once =
        let a = once.tried.3 in
        let made : DoublesNothing p z = (a.stays.doublings, a.stays.grown_from) in
        (once.tried.0, once.tried.1, once.tried.2, ([], All-nil _, counted_back (λ x. IsAnswered (SessionOn (q ∷ r ∷ []) once.tried.0 once.tried.1) Closed x z) p z made a, grown_none p z made))

    found_once : FindsAmong (IsStripeOfAny hash set (q ∷ r ∷ [])) p z → FindsAmong (λ t. IsStripeOfAny hash set (q ∷ r ∷ []) t ⊎ SaysNoRoom r p z) p z
    found_once f = (f.0, f.1, λ t i. inl (f.2 t i))

    pub answered_once : (came : Renamed) → HasRenamedOnce hash set q r key (Ok (Ok came)) p z → HasRenamed hash set q r key (Ok came) p z
    answered_once came once = let stays = once.tried.3.stays in record { answered = (p, sought_none p, answers_once came once); refused = tt; sought = inl (stays.no_slot, (stays.doublings, stays.grown_from)); found = found_once once.found }

    -- why it was refused
    refuses_once : (e : NotRenamed K) → HasRenamedOnce hash set q r key (Err e) p z → (o : PassState V) → HasSoughtRoom hash set r o p → (e.key ≡ key) × IsNotRenamed hash set q r e.why o z
    refuses_once e once o sought = (once.refused.0, subst (λ (f : RoomFault). IsNotRenamed hash set q r f o z) (sym once.refused.1.1) (p, sought, once.refused.1.2))

    pub refused_once : (e : NotRenamed K) → HasRenamedOnce hash set q r key (Err e) p z → HasRenamed hash set q r key (Err e) p z
    refused_once e once = record { answered = tt; refused = refuses_once e once p (sought_none p); sought = inl (notes_nothing hash set (q ∷ r ∷ []) once.refused.1.0 p z once.refused.1.2); found = found_once once.found }

  -- since p room was sought for the name, and its buckets were full again
  sought_full : {hash : Name → ℕ} {set : Settings} {r : Name} (p m z : PassState V) → HasSoughtRoom hash set r p m → HasFoundNoRoom r m z → HasSoughtRoom hash set r p z
  sought_full {hash} {set} {r} p m z sought full =
      let note : List (RoomNote V) = noted r NoRoom full.0 ∷ [] in
      record {
        more = note ++ sought.more;
        own = All-append (SaysOf r NoRoom) note sought.more (All-cons (SaysOf r NoRoom) (noted r NoRoom full.0) [] (refl, refl) (All-nil _)) sought.own;
        stays = loosely (stays_then sought.more note (as_doubled p m).view m.view z.view sought.stays full.1);
        grown = grown_until p m z sought.grown (full.1.doublings, full.1.grown_from) full.1.seen full.1.watched full.1.by;
      }

  -- Since p the buckets of r were found full, as p1; p2 has tried to make room.
  module _ {K : Type 0} (hash : Name → ℕ) (w : WordsState) (q r : Name) (key : K) (p p1 p2 : PassState V) (caller : IsCaller w p1) (lacks : LacksSlot q r p p1) (before : FindsAmong (IsStripeOfAny hash w.settings (q ∷ r ∷ [])) p p1)
      (found : FindsOwnUnlessFull hash w.settings r p1 p2) where
    full : HasFoundNoRoom r p p1
    full = (lacks.0, lacks.1)

    -- what was noted since is behind that
    module _ (z : PassState V) (more : List (RoomNote V)) (said : z.view.no_slot ≡ more ++ p1.view.no_slot) where
      sought_late : SeeksSlot q r p z
      sought_late = inr (lacks.0, more, said ∙ ap (λ l. more ++ l) lacks.1.no_slot, lacks.2)

      found_late : FindsAny p z → FindsAmong (λ t. IsStripeOfAny hash w.settings (q ∷ r ∷ []) t ⊎ SaysNoRoom r p z) p z
      found_late any = (any.0, any.1, λ t i. inr (more ++ noted r NoRoom lacks.0 ∷ [], lacks.0, said ∙ (ap (λ l. more ++ l) lacks.1.no_slot ∙ sym (append_assoc more (noted r NoRoom lacks.0 ∷ []) p.view.no_slot)), Contains-push more (noted r NoRoom lacks.0)))

    tried : HasTried r w p1 p1
    tried = tried_same r w p1 caller.own caller.idle

    any : FindsAny p p1
    any = any_among _ p p1 before

    any_then : FindsAny p p2
    any_then = any_on p p1 p2 any (any_among _ p1 p2 found)

    -- it made none
    pub refused_room : (why : Why) → IsRefused hash w.settings r why p1 p2 → HasRenamed hash w.settings q r key (Err (record { key = key; why = fault.Room why })) p p2
    refused_room why said = record {
      answered = tt;
      refused = (refl, (p, sought_none p, refused_after r w hash p p1 p1 p2 full any tried why said));
      sought = sought_late p2 said.more said.stays.no_slot;
      found = found_late p2 said.more said.stays.no_slot any_then;
    }

    -- it has made some
    module _ (made : HasSoughtRoom hash w.settings r p1 p2) where
      sought : HasSoughtRoom hash w.settings r p p2
      sought = sought_since r w hash p p1 p1 p2 full any tried made.more made.stays made.own made.grown

      -- and was answered or refused so, where it is m then, up to which room was sought
      came_to : (o : Result Renamed (NotRenamed K)) (m z : PassState V) → HasSoughtRoom hash w.settings r p m → (more : List (RoomNote V)) → z.view.no_slot ≡ more ++ p2.view.no_slot → FindsAny p2 z
          → IfOk o (λ came. AnswersRename hash w.settings q r came m z) → IfErr o (λ back. (back.key ≡ key) × IsNotRenamed hash w.settings q r back.why p z) → HasRenamed hash w.settings q r key o p z
      came_to o m z until more said finds answered refused =
          let all : z.view.no_slot ≡ (more ++ made.more) ++ p1.view.no_slot = said ∙ (ap (λ l. more ++ l) made.stays.no_slot ∙ sym (append_assoc more made.more p1.view.no_slot)) in
          record {
            answered = IfOk-weaker o _ _ (λ came a. (m, until, a)) answered;
            refused = refused;
            sought = sought_late z (more ++ made.more) all;
            found = found_late z (more ++ made.more) all (any_on p p2 z any_then finds);
          }

      -- it tried once more
      module _ (z : PassState V) where
        pub answered_again : (came : Renamed) → HasRenamedOnce hash w.settings q r key (Ok (Ok came)) p2 z → HasRenamed hash w.settings q r key (Ok came) p z
        answered_again came once = came_to (Ok came) p2 z sought [] once.tried.3.stays.no_slot (any_among _ p2 z once.found) (answers_once hash w.settings q r key p2 z came once) tt

        pub refused_again : (e : NotRenamed K) → HasRenamedOnce hash w.settings q r key (Err e) p2 z → HasRenamed hash w.settings q r key (Err e) p z
        refused_again e once =
            came_to (Err e) p2 z sought [] (notes_nothing hash w.settings (q ∷ r ∷ []) once.refused.1.0 p2 z once.refused.1.2).0 (any_among _ p2 z once.found) tt (refuses_once hash w.settings q r key p2 z e once p sought)

      -- others had taken the slot, as p3, and it tried under all stripes
      module _ (p3 : PassState V) (back : K) (again : HasRenamedOnce hash w.settings q r key (Ok (Err back)) p2 p3) where
        full_again : HasFoundNoRoom r p2 p3
        full_again = (again.tried.1.0, again.tried.1.1)

        until : HasSoughtRoom hash w.settings r p p3
        until = sought_full p p2 p3 sought full_again

        abbrev note : List (RoomNote V)
        note = noted r NoRoom full_again.0 ∷ []

        pub renamed_in_all : (o : Result Renamed (NotRenamed K)) (z : PassState V) → HasRenamedInAll hash w.settings q r back o p3 z → HasRenamed hash w.settings q r key o p z
        renamed_in_all o z last =
            let refused : IfErr o (λ e. (e.key ≡ key) × IsNotRenamed hash w.settings q r e.why p z) = IfErr-weaker o _ _
            (λ e h. (h.0 ∙ again.tried.0, subst (λ (f : RoomFault). IsNotRenamed hash w.settings q r f p z) (sym h.1.1) (p3, until, h.1.2))) last.refused in
            let finds = any_on p2 p3 z (any_among _ p2 p3 again.found) (any_among _ p3 z last.found) in
            by_result o last.answered last.refused
            (λ came a. came_to o p3 z until (a.3.0 ++ note) (a.3.2.stays.no_slot ∙ (ap (λ l. a.3.0 ++ l) full_again.1.no_slot ∙ sym (append_assoc a.3.0 note p2.view.no_slot))) finds last.answered refused)
            (λ e h. came_to o p3 z until (h.1.2.more ++ note) (h.1.2.stays.no_slot ∙ (ap (λ l. h.1.2.more ++ l) full_again.1.no_slot ∙ sym (append_assoc h.1.2.more note p2.view.no_slot))) finds last.answered refused)

  -- a refused rename keeps its caller's number
  by_not_renamed : (hash : Name → ℕ) (set : Settings) (q r : Name) (p z : PassState V) (e : RoomFault) → IsNotRenamed hash set q r e p z → z.view.by ≡ p.view.by
  by_not_renamed hash set q r p z (fault.Keys why) h = by_kept hash set (q ∷ r ∷ []) h.0 z why h.2 ∙ h.1.stays.by
  by_not_renamed hash set q r p z (fault.Room why) h = h.2.stays.by ∙ h.1.stays.by

  -- A rename had the pass p of the caller c, and left z. The table that it was made on, v, is the caller's.
  module _ {w : WordsState} {c : CallerState V} (p z : PassState V) (is : caller_of w p ≡ c) (caller : IsCaller w p) {v : WordsState} (at : v ≡ w) (after : IsCaller v z) {K : Type 0} (hash : Name → ℕ) (q r : Name) (key : K) where
    record Leaves (came : Renamed) : Type 0 where
      same : IsSameCaller c (caller_of w z)
      answered : (before after : List (Option V)) × Renames came before after × Replies (SessionOn (q ∷ r ∷ []) before after) c (caller_of w z) Closed
      notes : (m : PassState V) × HasSoughtRoom hash c.table.settings r (pass_of c) m × NotesFull hash r (caller_of c.table m) (caller_of w z)

    leaves : (came : Renamed) (m : PassState V) → HasSoughtRoom hash w.settings r p m → AnswersRename hash w.settings q r came m z → Leaves came
    leaves came m sought a =
        let call = SessionOn (q ∷ r ∷ []) a.0 a.1 in
        let but = a.3.2 in
        record {
          same = same_caller p z is (but.stays.by ∙ sought.stays.by);
          answered = (a.0, a.1, a.2, subst (λ (x : CallerState V). Replied call Closed x.client (client_of z.view)) is (replied_since sought.stays call Closed (client_of z.view) but.replied));
          notes = (
            m,
            subst (λ (x : CallerState V). HasSoughtRoom hash x.table.settings r (pass_of x) m) is (subst (λ (x : PassState V). HasSoughtRoom hash w.settings r x m) (sym (as_pass caller)) sought),
            (a.3.0, a.3.1, keeps_notes m z (ap (λ (x : CallerState V). caller_of x.table m) is) but.stays but.watched but.decided, grown_caller m z (ap (λ (x : CallerState V). caller_of x.table m) is) a.3.3),
          );
        }

    pub rename_left : (o : Result Renamed (NotRenamed K)) → HasRenamed hash v.settings q r key o p z → RenameLeaves hash q r key o c (caller_of w z)
    rename_left o there =
        let did = subst (λ (t : WordsState). HasRenamed hash t.settings q r key o p z) at there in
        let told : IfOk o Leaves = IfOk-weaker o _ _ (λ came h. leaves came h.0 h.1 h.2) did.answered in
        record {
          same = by_result o told did.refused (λ came h. h.same) (λ e h. same_caller p z is (by_not_renamed hash w.settings q r p z e.why h.1));
          answered = IfOk-weaker o _ _ (λ came h. h.answered) told;
          notes = IfOk-weaker o _ _ (λ came h. h.notes) told;
          sought = over p z is caller at after (λ t a b. SeeksSlot q r a b) there.sought;
          refused = over p z is caller at after (λ t a b. IfErr o (λ back. (back.key ≡ key) × IsNotRenamed hash t.settings q r back.why a b)) there.refused;
          found = over p z is caller at after (λ t a b. FindsAmong (λ n. IsStripeOfAny hash t.settings (q ∷ r ∷ []) n ⊎ SaysNoRoom r a b) a b) there.found;
        }
