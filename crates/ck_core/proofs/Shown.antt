-- What a caller's own view shows.
use Rattle.std.proofs.Common.{◌≡◌, ℕ, ◌^◌, ◌<◌, ◌≤◌, List, [], ◌∷◌, ◌++◌, append-nil, length, length-append, sym, refl, ap, ◌∙◌, subst, arith, lt_of_not-le, Some}
use Rattle.std.proofs.Math.Nat.{one-le-pow}
use mathlib.Core.Option.{some}
use mathlib.Core.Logic.{dite}
use native.Mathlib.Decide.{dec_le}
use lib.ListN.{get_elem?}
use Rattle.ck_model.specs.declared.history.Entry.{Entry}
use Rattle.ck_model.specs.declared.contents.Content.{Content}
use Rattle.ck_model.specs.Numbered.{IsIn, numbers, Holds}
use Rattle.ck_model.specs.Promise.{After, subhistory, Answered}
use Rattle.ck_model.specs.Contents.{Layout, bindings, whole}
use Rattle.ck_model.specs.Sections.{HasAll}
use Rattle.ck_model.proofs.Numbered.{if_same, held_of_in, listed_as}
use Rattle.ck_model.proofs.Names.{maps_alike}
use Rattle.ck_model.proofs.Belongs.{stripe_below}
use Rattle.ck_model.proofs.Sections.{owned_binding}
use Rattle.ck_model.proofs.Histories.{subhistory-append}
use Rattle.std.specs.Prelude.{All}
use Rattle.ck_core.specs.declared.trace.LockEvent.{LockEvent}
use Rattle.ck_core.specs.declared.view.View.{View}
use Rattle.ck_core.specs.Trace.{IsLegalTrace, decided_in, steps_of, missed_in}
use Rattle.ck_core.specs.State.{Configuration, HistoryInvariant, Watches, owned, client_of}
use Rattle.ck_core.specs.Laws.{Shows}
use Rattle.ck_core.proofs.Keeps.{agrees}
use Rattle.ck_core.proofs.LegalTraces.{legal_start, decides_own, steps_same, decided_append, none_left, no_others}
use Rattle.ck_core.proofs.Callers.{own_held, own_in, seen_starts, seen_own}

pub no_items : {A : Type 0} (l : List A) → length l ≡ 0 → l ≡ []
no_items [] e = refl
no_items (x ∷ xs) e = absurd (omega arith)

pub no_second : {A : Type 0} (xs ys : List A) → xs ++ ys ≡ [] → ys ≡ []
no_second [] ys e = e
no_second (x ∷ xs) ys e = let l = ap length e in absurd (omega arith)

-- a history that has no caller's entries
no_entries : {V : Type 0} (log : List (Entry V)) → ((n : ℕ) → subhistory n log ≡ []) → log ≡ []
no_entries [] none = refl
no_entries (x ∷ xs) none = let l = ap length (sym (if_same x.by x.by (x ∷ subhistory x.by xs) (subhistory x.by xs) refl) ∙ none x.by) in absurd (omega arith)

none_after : {A : Type 0} (xs ys : List A) → xs ≡ xs ++ ys → ys ≡ []
none_after xs ys e = let l = ap length e in let m = length-append xs ys in no_items ys (omega arith)

module _ {V : Type 0} (k : Layout) (callers : ℕ) (log : List (Entry V)) (v w : View V) (e : Entry V) (by : v.by ≡ Some e.by) where
  -- what was decided, as a caller is told of it
  pub answered : Shows k callers log v → Shows k callers (log ++ e ∷ []) w → w.seen ≡ log ++ e ∷ [] → w.mine ≡ v.mine ++ e ∷ [] → Answered (client_of v) e (client_of w)
  answered before after seen mine = record {
    others = before.seen.0;
    seen = seen ∙ ap (λ l. l ++ e ∷ []) before.seen.1;
    by_others = before.unseen e.by by before.seen.0 before.seen.1;
    legal = (after.legal.0, subst (λ l. After l after.legal.0) (sym seen) after.legal.1);
    mine = mine;
  }

module _ {V : Type 0} (k : Layout) (callers : ℕ) (log : List (Entry V)) (s : Configuration V) (law : HistoryInvariant k callers log s) where
  -- the history has no entry of a number that is no caller's
  pub others_none : (m : ℕ) → callers ≤ m → subhistory m log ≡ []
  others_none m le = ap (subhistory m) (sym law.decided) ∙ no_others callers m s.trace le law.traced.legal law.traced.by_callers

module _ {V : Type 0} (k : Layout) (callers : ℕ) (log : List (Entry V)) (s : Configuration V) (law : HistoryInvariant k callers log s) (j : ℕ) (v : View V) (at : get_elem? s.views j ≡ some v) where
  there : (t : ℕ) (c : Content V) → Holds v.held t c → Holds (whole k law.contents) t c
  there t c h = let a = agrees k callers log s law j v at t c h in listed_as (2 ^ k.s) law.contents t c a.0 a.1

  whole_held : HasAll k v.held → bindings (whole k law.contents) ≡ bindings v.held
  whole_held all = maps_alike (bindings (whole k law.contents)) (bindings v.held)
      (λ q. owned_binding k law.contents v.held law.lawful (agrees k callers log s law j v at) (law.places.distinct j v at) q (λ t h. all t (stripe_below k q t h)))

  beyond : (m : ℕ) → ((m : ℕ) → m < callers → IsIn m (numbers (owned v))) → ¬ (IsIn m (numbers (owned v))) → callers ≤ m
  beyond m all out = dite (dec_le callers m) (λ l. l) (λ no_le. absurd (out (all m (lt_of_not-le no_le))))

  unseen_none : (m : ℕ) → v.by ≡ Some m → (more : List (Entry V)) → log ≡ v.seen ++ more → subhistory m more ≡ []
  unseen_none m e more is =
      let kn = law.callers_known.knows j v at in
      none_after v.mine (subhistory m more)
      (sym (ap (λ l. l ++ subhistory m more) (sym (seen_own callers log v kn m e)) ∙ (sym (subhistory-append m v.seen more) ∙ (ap (subhistory m) (sym is) ∙ kn.calls m v.mine (own_held v m e)))))

  -- the only caller has seen all
  all_of_one : (m : ℕ) → v.by ≡ Some m → callers ≡ 1 → v.seen ≡ log
  all_of_one m e one =
      let kn = law.callers_known.knows j v at in
      let more = kn.sees.unseen in
      let low = kn.within m (own_in v m e) in
      let by_none : (n : ℕ) → subhistory n more ≡ [] = λ n. dite (dec_le callers n)
      (λ l. no_second (subhistory n v.seen) (subhistory n more) (sym (subhistory-append n v.seen more) ∙ (ap (subhistory n) (sym kn.sees.begins) ∙ others_none k callers log s law n l)))
      (λ no_le. let l = lt_of_not-le no_le in let same : n ≡ m = omega arith in ap (λ x. subhistory x more) same ∙ unseen_none m e more kn.sees.begins) in
      sym (kn.sees.begins ∙ (ap (λ l. v.seen ++ l) (no_entries more by_none) ∙ append-nil v.seen))

  watched_on : Watches s.trace v
  watched_on = law.traced.watched j v at

  -- what was decided in what was watched begins the history
  decided_watched : log ≡ decided_in v.watched ++ decided_in watched_on.sees.unseen
  decided_watched = sym law.decided ∙ (ap decided_in watched_on.sees.begins ∙ decided_append v.watched watched_on.sees.unseen)

  -- by its own steps the caller decided its entries
  decided_mine : (m : ℕ) → v.by ≡ Some m → decided_in v.steps ≡ v.mine
  decided_mine m by =
      let legal : IsLegalTrace (v.watched ++ watched_on.sees.unseen) = subst IsLegalTrace watched_on.sees.begins law.traced.legal in
      let same : steps_of m (v.watched ++ watched_on.sees.unseen) ≡ steps_of m v.watched = steps_same m v.watched watched_on.sees.unseen (watched_on.sees.by_others m (own_in v m by)) in
      let whole : decided_in (steps_of m (v.watched ++ watched_on.sees.unseen)) ≡ subhistory m (decided_in (v.watched ++ watched_on.sees.unseen)) = decides_own m [] (v.watched ++ watched_on.sees.unseen) legal in
      ap decided_in (sym (watched_on.own m by) ∙ sym same)
      ∙ (whole ∙ (ap (λ (es : List (LockEvent V)). subhistory m (decided_in es)) (sym watched_on.sees.begins) ∙ (ap (subhistory m) law.decided ∙ (law.callers_known.knows j v at).calls m v.mine (own_held v m by))))

  -- whoever keeps all numbers has watched all
  decided_whole : ((m : ℕ) → m < callers → IsIn m (numbers (owned v))) → decided_in v.watched ≡ log
  decided_whole all =
      let none : watched_on.sees.unseen ≡ [] = none_left callers v.watched watched_on.sees.unseen (subst (λ (es : List (LockEvent V)). All (λ (e : LockEvent V). e.by < callers) es) watched_on.sees.begins law.traced.by_callers) (λ m low. watched_on.sees.by_others m (all m low)) in
      sym (decided_watched ∙ (ap (λ (es : List (LockEvent V)). decided_in v.watched ++ decided_in es) none ∙ append-nil (decided_in v.watched)))

  pub shows : Shows k callers log v
  shows = let kn = law.callers_known.knows j v at in record {
    seen = seen_starts callers log v kn;
    heard = kn.heard;
    legal = (bindings (whole k law.contents), law.legal);
    own = λ m e. kn.calls m v.mine (own_held v m e);
    unseen = unseen_none;
    alone = all_of_one;
    watched = let w = law.traced.watched j v at in record { legal = legal_start s.trace v.watched w.sees.unseen w.sees.begins law.traced.legal; missed = λ m by. ap missed_in (w.own m by) };
    steps = watched_on.own;
    decided = decided_mine;
    heard_watched = (law.traced.watched j v at).heard;
    decided_first = (decided_in watched_on.sees.unseen, decided_watched);
    lawful = record {
      distinct = law.places.distinct j v at;
      sound = λ t c h. law.lawful.sound t c (there t c h);
      once = λ t u c d q x y h g. law.lawful.once t u c d q x y (there t c h) (there u d g);
      one_power = λ t u c d h g. law.lawful.one_power t u c d (there t c h) (there u d g);
    };
    inside = λ t i. let c = held_of_in v.held t i in (agrees k callers log s law j v at t c.0 c.1).0;
    told = λ t c h. let a = agrees k callers log s law j v at t c h in subst (λ (x : Content V). (v.told ≤ x.power) × (v.heard_told ≤ x.power)) a.1 (law.told j v at t a.0);
    most = (
        let one : 1 ≤ 2 ^ k.s = one-le-pow k.s 2 (omega arith) in
        let first : 0 < 2 ^ k.s = omega arith in
        let told = (law.told j v at 0 first).0 in
        let within = (law.lawful.sound 0 (law.contents 0) (listed_as (2 ^ k.s) law.contents 0 (law.contents 0) first refl)).most in
        omega arith
        );
    all_seen = law.all_seen j v at;
    all_held = λ all. subst (After log) (whole_held all) law.legal;
    all_kept = λ all. record {
      each = kn.calls;
      no_others = λ m out. others_none k callers log s law m (beyond m all out);
    };
    all_decided = decided_whole;
  }
