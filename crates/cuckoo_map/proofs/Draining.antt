-- A session, from the moment when its caller locked the table.
use Rattle.std.proofs.Common.{◌≡◌, ℕ, ◌+◌, ◌-◌, ◌≤◌, List, [], ◌∷◌, length, refl, sym, ap, ◌∙◌, subst, arith}
use Rattle.std.specs.FinMap.{empty, entries, len-entries, len-empty}
use Rattle.ck_model.specs.declared.history.Call.TheVariants.{Session}
use Rattle.ck_model.specs.declared.history.Reply.TheVariants.{Closed}
use Rattle.ck_model.specs.Promise.{Name, Map, Replied, name_cmp}
use Rattle.ck_model.specs.Contents.{power_of}
use Rattle.ck_core.specs.Steps.{growing}
use Rattle.ck_words.specs.Words.{WordsState}
use Rattle.ck_words.proofs.Staying.{watches_on, decides_since}
use Rattle.ck_refusal.specs.declared.refusal.DrainFault.TheVariants as drain
use Rattle.cuckoo_map.specs.Callers.{CallerState, pass_of, Replies, KeepsNotesBut, KeepsNotes}
use Rattle.cuckoo_map.specs.Locking.{LockedState, start_of, map_of, locked_power, session_call, IsSameSession, HasLocked, Clears, EndsNotes}
use Rattle.cuckoo_map.proofs.Calls.{replied_since}
use Rattle.cuckoo_map.proofs.Counted.{growing_none}

pub busy_not_memory : (t : ℕ) → ¬ (drain.Busy t ≡ drain.Memory)
busy_not_memory t e = cc

none_of_length : {X : Type 0} (xs : List X) → length xs ≡ 0 → xs ≡ []
none_of_length [] e = refl
none_of_length (x ∷ xs) e = absurd (omega arith)

no_entries : {V : Type 0} → entries (empty {X = V} {R = name_cmp}) ≡ []
no_entries {V} = none_of_length (entries (empty {X = V} {R = name_cmp})) (sym (len-entries (empty {X = V} {R = name_cmp})) ∙ len-empty name_cmp V)

-- The caller c locked the table, and d is left of it when it unlocked it.
module _ {V : Type 0} {c : CallerState V} (d : CallerState V) {l n : LockedState V} (locked : HasLocked c.table (pass_of c) l) (session : IsSameSession l n) where
  -- It is answered by the session from the map as it was to the map that was left.
  pub session_since : {left : Map V} → map_of n ≡ left → Replies (session_call n) n.caller d Closed → Replies (Session (entries (map_of l)) (entries left)) c d Closed
  session_since {left} is answered =
      let start : start_of n ≡ map_of l = ap (λ (x : LockedState V). start_of x) session ∙ sym locked.same in
      let from : Replied (Session (entries (map_of l)) (entries left)) Closed l.caller.client d.client =
      subst (λ (x : CallerState V × Map V × Map V). Replied (Session (entries x.1) (entries x.2)) Closed x.0.client d.client) (λ j. ((session j).caller, start j, is j)) answered in
      replied_since locked.stays (Session (entries (map_of l)) (entries left)) Closed d.client from

  -- and so by one to the empty map
  pub emptied_since : map_of n ≡ empty → Replies (session_call n) n.caller d Closed → Replies (Session (entries (map_of l)) []) c d Closed
  emptied_since none answered = subst (λ (left : List (Name × V)). Replies (Session (entries (map_of l)) left) c d Closed) no_entries (session_since none answered)

module _ {V : Type 0} where
  -- The number of buckets stayed: the caller keeps its notes.
  notes_kept : (w : WordsState) (c : CallerState V) (l : LockedState V) (d : CallerState V) → HasLocked w (pass_of c) l → (power : ℕ) → power ≡ locked_power l → KeepsNotesBut [] l.caller d
      → (d.notes.doublings ≡ l.caller.notes.doublings + (power - power_of l.before)) × (d.notes.grown_from ≡ growing l.caller.notes.grown_from l.before (power - power_of l.before)) → KeepsNotes c d
  notes_kept w c l d locked power same e counted =
      let stays = locked.stays in
      let level : power ≡ power_of l.before = same ∙ locked.power in
      let before : l.caller.notes.doublings ≡ c.notes.doublings = stays.doublings in
      let first : c.notes.told ≤ l.caller.notes.told = stays.told in
      let then_told : l.caller.notes.told ≤ d.notes.told = e.told in
      let made = counted.0 in (
        record {
          settings = e.settings ∙ stays.settings;
          told = omega arith;
          heard = (e.heard.0 ∙ stays.heard.0, e.heard.1 ∙ stays.heard.1, e.heard.2 ∙ stays.heard.2);
          watched = watches_on (pass_of c).view (pass_of l.caller).view (pass_of d).view stays.by stays.watched e.watched;
          decided = decides_since (pass_of c).view (pass_of l.caller).view (pass_of d).view stays.by stays.watched e.decided;
          no_slot = e.no_slot ∙ stays.no_slot;
        },
        omega arith,
        counted.1 ∙ (growing_none l.caller.notes.grown_from l.before (power - power_of l.before) (omega arith) ∙ stays.grown_from),
      )

  -- where nothing was done to the table
  pub notes_of_look : {w : WordsState} {c : CallerState V} {l : LockedState V} (d : CallerState V) → HasLocked w (pass_of c) l → EndsNotes l d → KeepsNotes c d
  notes_of_look {w} {c} {l} d locked ended = notes_kept w c l d locked (locked_power l) refl ended.0 (ended.1, ended.2)

  -- where it was cleared
  pub notes_of_clear : {w : WordsState} {c : CallerState V} {l m : LockedState V} (d : CallerState V) → HasLocked w (pass_of c) l → Clears l m → EndsNotes m d → KeepsNotes c d
  notes_of_clear {w} {c} {l} {m} d locked cleared ended =
      let e : EndsNotes (record l { stripes = m.stripes }) d = subst (λ (x : LockedState V). EndsNotes x d) cleared.session ended in
      notes_kept w c l d locked (locked_power m) cleared.power e.0 (e.1, e.2)
