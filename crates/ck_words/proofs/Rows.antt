-- What the rows of the core leave of a caller's view.
use Rattle.std.proofs.Common.{◌≡◌, ◌≢◌, ℕ, ◌^◌, ◌≤◌, List, [], ◌∷◌, ◌++◌, append-nil, append_assoc, reverse, refl, sym, ap, ◌∙◌, subst, ⊎_elim, arith, Option, Some, None}
use Rattle.std.specs.Prelude.{slice_set}
use Rattle.std.proofs.Math.Nat.{one-le-pow}
use mathlib.Core.Option.{some, some-injective}
use lib.ListN.{get_elem?}
use Rattle.ck_model.specs.declared.history.Entry.{Entry}
use Rattle.ck_model.specs.declared.history.Reason.{Reason}
use Rattle.ck_model.specs.declared.contents.Content.{Content}
use Rattle.ck_model.specs.declared.settings.Settings.{Settings}
use Rattle.ck_model.specs.Promise.{Name}
use Rattle.ck_model.specs.Numbered.{AreDistinct, numbers, Holds}
use Rattle.ck_model.specs.Contents.{layout_of, Stripes}
use Rattle.ck_model.specs.Sections.{HasAll}
use Rattle.ck_model.proofs.Numbered.{in_held, held_of_in, over_hit}
use Rattle.ck_core.specs.declared.view.View.{View}
use Rattle.ck_core.specs.State.{Configuration, HasNumber, owned, HistoryInvariant, found_held}
use Rattle.ck_core.specs.declared.trace.LockStep.{LockStep}
use Rattle.ck_core.specs.declared.trace.LockStep.TheVariants.{Took, Missed, Gave, Decided}
use Rattle.ck_core.specs.declared.trace.LockEvent.{LockEvent}
use Rattle.ck_core.specs.Trace.{decided_by, decided_in, steps_of, missed_by}
use Rattle.ck_core.specs.Contained.{told_by, content_in}
use Rattle.ck_core.specs.Steps.{Label, IsAbove, number_of, event, stepping, giving, renewing, deciding, grown}
use Rattle.ck_core.specs.Steps.Label.{Take, FindHeld, Give, Decide, GiveRest, Renew, Look}
use Rattle.ck_core.specs.Laws.{Shows}
use Rattle.ck_core.proofs.Answered.{law_of_one_caller}
use Rattle.ck_core.proofs.Callers.{own_held}
use Rattle.ck_core.proofs.LegalTraces.{steps_last, missed_append, content_more}
use Rattle.ck_core.proofs.Lists.{set_there}
use Rattle.ck_core.proofs.Keeps.{step_keeps}
use Rattle.ck_core.proofs.Shown.{shows}
use Rattle.ck_words.specs.Steps.{Steps}
use Rattle.ck_words.specs.Holding.{HasHeld}
use Rattle.ck_words.proofs.Reversed.{of_reverse}

-- the view w, once the stripe t went home by it
abbrev pub gave_by : {V : Type 0} → LockStep V → Configuration V → ℕ → View V → View V
gave_by step s t w = stepping s step t w

-- and decided nothing
abbrev pub gave : {V : Type 0} → Configuration V → ℕ → View V → View V
gave = gave_by (Gave [])

-- what was found held once this step was made
pub found_by : {V : Type 0} (step : LockStep V) (s : Configuration V) (t : ℕ) (w : View V) → found_held (stepping s step t w) ≡ missed_by step t ++ found_held w
found_by step s t w = missed_append w.steps (event w.by step t ∷ [])

module _ {V : Type 0} (hash : Name → ℕ) (set : Settings) where
  module _ (m : Label V) (v w : View V) (r : Steps hash set m v w) where
    pub shows_before : Shows (layout_of hash set) set.callers r.log v
    shows_before = shows (layout_of hash set) set.callers r.log r.before r.law r.id v r.was

    pub shows_after : Shows (layout_of hash set) set.callers (grown r.log m) w
    shows_after = shows (layout_of hash set) set.callers (grown r.log m) r.after (step_keeps (layout_of hash set) set.min_load set.callers r.log r.id m r.before r.after r.law r.does) r.id w r.is

    -- what was watched begins the trace, which is watched with a step more
    pub watched_more : (e : LockEvent V) → (events : List (LockEvent V)) × (r.before.trace ++ e ∷ [] ≡ v.watched ++ events)
    watched_more e = let h = (r.law.traced.watched r.id v r.was).sees in (h.unseen ++ e ∷ [], ap (λ l. l ++ e ∷ []) h.begins ∙ append_assoc v.watched h.unseen (e ∷ []))

    -- and it is its caller's alone
    pub own_more : (step : LockStep V) (t n : ℕ) → v.by ≡ Some n → steps_of n (watched_more (event v.by step t)).0 ≡ event v.by step t ∷ []
    unfolding watched_more
    own_more step t n by = let h = (r.law.traced.watched r.id v r.was).sees in steps_last n h.unseen (event v.by step t) (h.by_others n (in_held (owned v) n v.mine (own_held v n by))) (ap number_of by)

    -- what it decided by it
    pub watched_step : (step : LockStep V) (t : ℕ) → let e = event v.by step t in
        (events : List (LockEvent V)) × (r.before.trace ++ e ∷ [] ≡ v.watched ++ events) × ((n : ℕ) → v.by ≡ Some n → (v.steps ++ e ∷ [] ≡ v.steps ++ steps_of n events) × (v.mine ++ decided_by step ≡ v.mine ++ decided_in (steps_of n events)))
    watched_step step t = (
      (watched_more (event v.by step t)).0,
      (watched_more (event v.by step t)).1,
      λ n by. (ap (λ l. v.steps ++ l) (sym (own_more step t n by)), ap (λ l. v.mine ++ l) (sym (ap decided_in (own_more step t n by) ∙ append-nil (decided_by step)))),
    )

    -- where it decided nothing
    pub watched_quiet : (step : LockStep V) (t : ℕ) → decided_by step ≡ [] → let e = event v.by step t in
        (events : List (LockEvent V)) × (r.before.trace ++ e ∷ [] ≡ v.watched ++ events) × ((n : ℕ) → v.by ≡ Some n → (v.steps ++ e ∷ [] ≡ v.steps ++ steps_of n events) × (v.mine ≡ v.mine ++ decided_in (steps_of n events)))
    watched_quiet step t none =
        let more = watched_step step t in
        (more.0, more.1, λ n by. ((more.2 n by).0, sym (append-nil v.mine) ∙ (ap (λ l. v.mine ++ l) (sym none) ∙ (more.2 n by).1)))

    -- Before the step its caller held what its view says. Where that is all, it had seen the history, and the trace tells what they contained, and what they contain since the step.
    pub held_then : (step : LockStep V) (t : ℕ) → AreDistinct (numbers (told_by step)) → w.watched ≡ r.before.trace ++ event v.by step t ∷ [] → w.by ≡ v.by → HasAll (layout_of hash set) v.held → HasHeld set.s v.watched v.seen (reverse v.held) (reverse (told_by step)) w
    held_then step t apart watched by all =
        let e : LockEvent V = event v.by step t in
        let content : ℕ → Content V = λ q. content_in set.s r.law.opened r.before.trace q in
        let saw = (r.law.traced.watched r.id v r.was).sees in
        let one : 1 ≤ 2 ^ set.s = one-le-pow set.s 2 (omega arith) in
        let first = held_of_in v.held 0 (all 0 (omega arith)) in
        let number = r.law.holders r.id v r.was 0 first.0 first.1 in
        record {
          moment = r.before.trace;
          step = e;
          since = (saw.unseen, saw.begins);
          watched = ([], watched ∙ sym (append-nil (r.before.trace ++ e ∷ [])));
          own = by ∙ (number.1 ∙ ap Some (sym (ap number_of number.1)));
          holders = λ q l. let c = held_of_in v.held q (all q l) in r.law.traced.held r.id v r.was q c.0 c.1 ∙ sym by;
          history = r.law.decided ∙ sym (r.law.all_seen r.id v r.was all);
          contained = (r.law.opened, λ q c h. let there = r.law.places.holds r.id v r.was q c (of_reverse v.held q c h) in r.law.contained q there.0 ∙ there.3);
          contain = (r.law.opened, λ q c h. content_more set.s r.law.opened r.before.trace e q content refl ∙ over_hit (told_by step) content apart q c (of_reverse (told_by step) q c h));
        }

    -- there is one view of the caller before the step
    pub same_view : (u : View V) → get_elem? r.before.views r.id ≡ some u → u ≡ v
    same_view u at = some-injective u v (sym at ∙ r.was)

    -- and one after it
    new_view : (new : View V → View V) (u : View V) → get_elem? r.before.views r.id ≡ some u → r.after.views ≡ slice_set r.before.views r.id (new u) → w ≡ new v
    new_view new u at after = some-injective w (new v) (sym r.is ∙ (ap (λ vs. get_elem? vs r.id) after ∙ (set_there r.before.views r.id u (new u) at ∙ ap (λ x. some (new x)) (same_view u at))))

  module _ (v w : View V) where
    pub take_row : (t : ℕ) (r : Steps hash set (Take t) v w) → w ≡ stepping r.before Took t (record v { held = (t, r.does.1) ∷ v.held; seen = r.log })
    take_row t r = new_view (Take t) v w r (λ u. stepping r.before Took t (record u { held = (t, r.does.1) ∷ u.held; seen = r.log })) r.does.0 r.does.2 (ap (λ (x : Configuration V). x.views) r.does.8)

    pub take_number : (t : ℕ) → Steps hash set (Take t) v w → HasNumber v
    take_number t r = subst (λ (u : View V). HasNumber u) (same_view (Take t) v w r r.does.0 r.does.2) r.does.7

    take_above : (t : ℕ) (r : Steps hash set (Take t) v w) → IsAbove t (numbers v.held)
    take_above t r = subst (λ (u : View V). IsAbove t (numbers u.held)) (same_view (Take t) v w r r.does.0 r.does.2) r.does.5

    -- the view tells the content of the stripe that was taken
    pub take_held : (t : ℕ) (c : Content V) → Steps hash set (Take t) v w → Holds w.held t c → w.held ≡ (t, c) ∷ v.held
    take_held t c r h =
        let held = ap (λ (u : View V). u.held) (take_row t r) in
        let same : r.does.1 ≡ c = ⊎_elim (λ (e : (t ≡ t) × (r.does.1 ≡ c)). e.1) (λ i. let l = take_above t r t (in_held v.held t c i) in absurd (omega arith)) (subst (λ (hs : Stripes V). Holds hs t c) held h) in
        held ∙ λ i. (t, same i) ∷ v.held

    pub find_row : (t : ℕ) (r : Steps hash set (FindHeld t) v w) → w ≡ stepping r.before Missed t v
    find_row t r = new_view (FindHeld t) v w r (λ u. stepping r.before Missed t u) r.does.0 r.does.1 (ap (λ (x : Configuration V). x.views) r.does.6)

    -- and the caller isn't the only one
    pub find_by_two : (t : ℕ) → Steps hash set (FindHeld t) v w → set.callers ≢ 1
    find_by_two t r one = law_of_one_caller (layout_of hash set) set.min_load r.id t r.log r.before r.after (subst (λ n. HistoryInvariant (layout_of hash set) n r.log r.before) one r.law) r.does

    pub give_row : (t : ℕ) (g : Option (Name × Reason)) (r : Steps hash set (Give t g) v w) → w ≡ gave r.before t (giving v t r.does.1 v.held g)
    give_row t g r = new_view (Give t g) v w r (λ u. gave r.before t (giving u t r.does.1 u.held g)) r.does.0 r.does.2 (ap (λ (x : Configuration V). x.views) r.does.5)

    -- a give that tells nothing is a give of the rest
    pub give_rest : (t : ℕ) → Steps hash set (Give t None) v w → Steps hash set (GiveRest t) v w
    give_rest t r = record { log = r.log; id = r.id; before = r.before; after = r.after; law = r.law; does = (r.does.0, r.does.1, r.does.2, r.does.3, r.does.5); was = r.was; is = r.is }

    pub rest_row : (t : ℕ) (r : Steps hash set (GiveRest t) v w) → w ≡ gave r.before t (giving v t r.does.1 v.held None)
    rest_row t r = new_view (GiveRest t) v w r (λ u. gave r.before t (giving u t r.does.1 u.held None)) r.does.0 r.does.2 (ap (λ (x : Configuration V). x.views) r.does.4)

    pub decide_row : (t : ℕ) (ks : Stripes V) (e : Entry V) (r : Steps hash set (Decide t ks e) v w) → w ≡ gave_by (Decided e ks) r.before t (deciding v t ks r.log e)
    decide_row t ks e r = new_view (Decide t ks e) v w r (λ u. gave_by (Decided e ks) r.before t (deciding u t ks r.log e)) r.does.0 r.does.2 (ap (λ (x : Configuration V). x.views) r.does.6)

    pub renew_row : (t : ℕ) (ks : Stripes V) (g : Option (Name × Reason)) (r : Steps hash set (Renew t ks g) v w) → w ≡ gave_by (Gave ks) r.before t (renewing v t r.does.1 ks g)
    renew_row t ks g r = new_view (Renew t ks g) v w r (λ u. gave_by (Gave ks) r.before t (renewing u t r.does.1 ks g)) r.does.0 r.does.2 (ap (λ (x : Configuration V). x.views) r.does.6)

    pub look_row : (t p : ℕ) (r : Steps hash set (Look t p) v w) → w ≡ record v { seen = r.log; told = p; watched = r.before.trace }
    look_row t p r = new_view (Look t p) v w r (λ u. record u { seen = r.log; told = p; watched = r.before.trace }) r.does.0 r.does.1 (ap (λ (x : Configuration V). x.views) r.does.5)

    pub look_told : (t p : ℕ) → Steps hash set (Look t p) v w → v.told ≤ p
    look_told t p r = subst (λ (u : View V). u.told ≤ p) (same_view (Look t p) v w r r.does.0 r.does.1) r.does.3
