-- What `atomic_table` asks of each step, split and join follows from the laws of the core.
use Rattle.std.proofs.Common.{◌≡◌, ℕ, zero, suc, ◌*◌, ◌^◌, ◌<◌, ◌≢◌, max, List, [], ◌∷◌, ◌++◌, map, length, length-set, set, get_or, drop, sym, refl, ap, ◌∙◌, subst, ⊎_elim, arith, inl, Option, Some, None}
use Rattle.std.specs.Prelude.{slice_set}
use mathlib.Core.Option.{none, some, some-injective, some-ne-none}
use mathlib.Core.Option as maybe
use lib.ListN.{get_elem?}
use Rattle.std.proofs.lemmas.Option.{none-some}
use Rattle.std.proofs.lemmas.List.{set-get_or}
use Rattle.atomic_table.specs.Table.{State, Act, keeps, takes, gives, stepped, carried_after, Valid, Allows, Splits, Joins}
use Rattle.ck_model.specs.declared.history.Entry.{Entry}
use Rattle.ck_model.specs.declared.history.Reason.{Reason}
use Rattle.ck_model.specs.declared.settings.Settings.{Settings}
use Rattle.ck_model.specs.declared.contents.Content.{Content}
use Rattle.ck_model.specs.Promise.{Name}
use Rattle.ck_model.specs.Numbered.{IsIn, numbers, Holds}
use Rattle.ck_model.specs.Contents.{Layout, layout_of, Lawful}
use Rattle.ck_model.specs.Sections.{Section, IdentitySection}
use Rattle.ck_model.proofs.Numbered.{Some-injective}
use Rattle.ck_stripe.specs.Stripe.{StripeState}
use Rattle.ck_core.specs.declared.view.View.{View}
use Rattle.ck_core.specs.State.{Configuration, HasNumber, HistoryInvariant}
use Rattle.ck_core.specs.declared.trace.LockStep.{LockStep}
use Rattle.ck_core.specs.declared.trace.LockStep.TheVariants.{Took, Missed, Gave, Decided}
use Rattle.ck_core.specs.declared.trace.LockEvent.{LockEvent}
use Rattle.ck_core.specs.Steps.{Label, Transition, IsAbove, IsExcused, HasGrounds, event, taken, missed, seen_as, sent_home, giving, renewing, deciding, beginner, message_of, joining, spent}
use Rattle.ck_core.specs.Steps.Label.{Take, FindHeld, Give, Decide, Renew, Look}
use Rattle.ck_core.proofs.Lists.{at_set, set_else, set_there}
use Rattle.ck_core.proofs.Shown.{shows}
use Rattle.ck_core.proofs.Keeps.{take_keeps, find_keeps, give_keeps, decide_keeps, renew_keeps, look_keeps, told_below, open_keeps, tell_keeps, join_keeps}
use Rattle.ck_words.specs.Rule.{StripeSlot, Hand, lying, spaced, world, IsAtHome, IsKept, Rule, RuleOf}
use Rattle.ck_words.specs.Steps.{Steps}
use Rattle.ck_words.specs.Plays.{contents_in, SeatTries, SeatGives, SeatLooks, first_kept, opened, begun}
use Rattle.ck_words.proofs.Spacing.{spaced-at, spaced-set}

module _ {V : Type 0} where
  map_set : (hs : List (maybe.Option (StripeSlot V))) (i : ℕ) (x : maybe.Option (StripeSlot V)) → set (map lying hs) i (lying x) ≡ map lying (set hs i x)
  map_set [] i x = refl
  map_set (h ∷ hs) zero x = refl
  map_set (h ∷ hs) (suc i) x = ap {B = List (Option (Content V))} (λ l. lying h ∷ l) (map_set hs i x)

  full : (x : maybe.Option (StripeSlot V)) (c : Content V) → lying x ≡ Some c → (stripe : StripeState V) × (x ≡ some (Some stripe)) × (stripe.content ≡ c)
  full none c e = absurd (none-some c e)
  full (some None) c e = absurd (none-some c e)
  full (some (Some stripe)) c e = (stripe, refl, Some-injective stripe.content c e)

  lies_there : (hs : List (maybe.Option (StripeSlot V))) (i : ℕ) (c : Content V) → get_elem? (map lying hs) i ≡ some (Some c) → (stripe : StripeState V) × (get_elem? hs i ≡ some (some (Some stripe))) × (stripe.content ≡ c)
  lies_there [] i c e = absurd (some-ne-none (Some c) (sym e))
  lies_there (h ∷ hs) zero c e = let f = full h c (some-injective (lying h) (Some c) e) in (f.0, ap some f.1, f.2)
  lies_there (h ∷ hs) (suc i) c e = lies_there hs i c e

  -- slots with the stripes of their numbers, with no memory to spare
  abbrev pub AreAtHome : ℕ → List (maybe.Option (StripeSlot V)) → Type 0
  AreAtHome s hs = (t : ℕ) (stripe : StripeState V) → get_elem? hs t ≡ some (some (Some stripe)) → IsAtHome s t stripe

  home_out : (s : ℕ) (hs : List (maybe.Option (StripeSlot V))) (t : ℕ) → AreAtHome s hs → AreAtHome s (set hs t none)
  home_out s hs t old u stripe e = ⊎_elim (λ (h : (u ≡ t) × (none ≡ some (Some stripe))). absurd (some-ne-none (Some stripe) (sym h.1))) (λ (h : (u ≢ t) × (get_elem? hs u ≡ some (some (Some stripe)))). old u stripe h.1)
      (at_set hs t u none (some (Some stripe)) e)

  home_back : (s : ℕ) (hs : List (maybe.Option (StripeSlot V))) (t : ℕ) (new : StripeState V) → IsAtHome s t new → AreAtHome s hs → AreAtHome s (set hs t (some (Some new)))
  home_back s hs t new own old u stripe e = ⊎_elim
      (λ (h : (u ≡ t) × (some (Some new) ≡ some (Some stripe))). subst (λ (x : ℕ × StripeState V). IsAtHome s x.0 x.1) (λ i. (sym h.0 i, Some-injective new stripe (some-injective (Some new) (Some stripe) h.1) i)) own)
      (λ (h : (u ≢ t) × (get_elem? hs u ≡ some (some (Some stripe)))). old u stripe h.1)
      (at_set hs t u (some (Some new)) (some (Some stripe)) e)

module _ {V : Type 0} (k : Layout) (callers : ℕ) where
  -- the word of stripe t became x, and its slot h
  kept_at : (log : List (Entry V)) (s : State (StripeSlot V) (View V)) (t x : ℕ) (h : maybe.Option (StripeSlot V)) (views : List (View V)) → t < 2 ^ k.s → length s.words ≡ 2 ^ k.s * 8
      → (trace : List (LockEvent V)) → HistoryInvariant k callers log (record { words = set (spaced (2 ^ k.s) s.words) t x; homes = set (map lying s.homes) t (lying h); views = views; trace = trace }) → AreAtHome k.s (set s.homes t h)
      → IsKept k callers log (record { words = set s.words (t * 8) x; homes = set s.homes t h; views = views })
  kept_at log s t x h views l sized trace law own = record {
    trace = trace;
    law = subst (λ (w : Configuration V). HistoryInvariant k callers log w) (λ i. record { words = sym (spaced-set (2 ^ k.s) t x s.words l sized) i; homes = map_set s.homes t h i; views = views; trace = trace }) law;
    words_sized = length-set s.words (t * 8) x ∙ sized;
    at_home = own;
  }

  -- a step that leaves words and slots as they were
  unmoved : (log : List (Entry V)) (s : State (StripeSlot V) (View V)) (id t x : ℕ) (w : View V) (has : List (ℕ × StripeSlot V)) → x ≡ get_or s.words t 0 → IsKept k callers log s → (trace : List (LockEvent V)) → HistoryInvariant k callers log (seen_as (world (2 ^ k.s) trace s) id w)
      → IsKept k callers log (stepped s t x id has w keeps)
  unmoved log s id t x w has e old trace law =
      let same : s.words ≡ set s.words t x = sym (set-get_or s.words t 0) ∙ ap (set s.words t) (sym e) in
      record {
        trace = trace;
        law = subst (λ ws. HistoryInvariant k callers log (record { words = spaced (2 ^ k.s) ws; homes = map lying s.homes; views = set s.views id w; trace = trace })) same law;
        words_sized = length-set s.words t x ∙ old.words_sized;
        at_home = old.at_home;
      }

  -- the view w, once the stripe t went home by it
  abbrev given : LockStep V → List (LockEvent V) → ℕ → View V → View V
  given step trace t w = record w { watched = trace ++ event w.by step t ∷ []; steps = w.steps ++ event w.by step t ∷ [] }

  -- a seat gives back the slot that it has first
  gave : (step : LockStep V) (log log2 : List (Entry V)) (s : State (StripeSlot V) (View V)) (id t : ℕ) (stripe : StripeState V) (w : View V) (has out : List (ℕ × StripeSlot V)) → has ≡ (t, Some stripe) ∷ out → t < 2 ^ k.s → IsAtHome k.s t stripe → (old : IsKept k callers log s)
      → HistoryInvariant k callers log2 (sent_home step (world (2 ^ k.s) old.trace s) id t stripe.content w)
      → IsKept k callers log2 (stepped s (t * 8) 0 id has (given step old.trace t w) gives)
  gave step log log2 s id t stripe w has out is l own old law = subst (λ (xs : List (ℕ × StripeSlot V)). IsKept k callers log2 (stepped s (t * 8) 0 id xs (given step old.trace t w) gives)) (sym is)
      (kept_at log2 s t 0 (some (Some stripe)) (set s.views id (given step old.trace t w)) l old.words_sized (old.trace ++ event w.by step t ∷ []) law (home_back k.s s.homes t stripe own old.at_home))

  module _ (id : ℕ) (v : View V) where
    pub open_allowed : (j : ℕ) (others : List (ℕ × List (Entry V))) → v.others ≡ (j, []) ∷ others → Splits (Rule k callers) id v (opened v) (begun v)
    open_allowed j others is s r at =
        let law = open_keeps k callers r.0 (world (2 ^ k.s) r.1.trace s) r.1.law id v at j others is in (
          r.0,
          record {
            trace = r.1.trace;
            law = subst (λ (o : List (ℕ × List (Entry V))). HistoryInvariant k callers r.0 (record { words = spaced (2 ^ k.s) s.words; homes = map lying s.homes; views = set s.views id (record v { others = drop 1 o }) ++ beginner v (first_kept o) ∷ []; trace = r.1.trace })) (sym is) law;
            words_sized = r.1.words_sized;
            at_home = r.1.at_home;
          },
        )

    pub tell_allowed : Splits (Rule k callers) id v v (message_of v)
    tell_allowed s r at = (r.0, record { trace = r.1.trace; law = tell_keeps k callers r.0 (world (2 ^ k.s) r.1.trace s) r.1.law id v at; words_sized = r.1.words_sized; at_home = r.1.at_home })

    pub join_allowed : (other : ℕ) (w : View V) → w.held ≡ [] → Joins (Rule k callers) id v other w (joining v w) spent
    join_allowed other w empty s r at apart there = (
      r.0,
      record {
        trace = r.1.trace;
        law = join_keeps k callers r.0 (world (2 ^ k.s) r.1.trace s) r.1.law id v at other w (sym (set_else s.views id other (joining v w) apart) ∙ there) apart empty;
        words_sized = r.1.words_sized;
        at_home = r.1.at_home;
      },
    )

module _ (hash : Name → ℕ) (set : Settings) where
  abbrev k : Layout
  k = layout_of hash set

  module _ {V : Type 0} where
    -- a step of the core from a state of the table, by which the view v becomes w
    steps_from : (move : Label V) (log : List (Entry V)) (s : State (StripeSlot V) (View V)) (id : ℕ) (v w : View V) (after : Configuration V) → (r : IsKept k set.callers log s) → get_elem? s.views id ≡ some v
        → Transition k set.min_load log id move (world (2 ^ k.s) r.trace s) after → after.views ≡ slice_set s.views id w → Steps hash set move v w
    steps_from move log s id v w after r at does views = record {
      log = log;
      id = id;
      before = world (2 ^ k.s) r.trace s;
      after = after;
      law = r.law;
      does = does;
      was = at;
      is = ap (λ vs. get_elem? vs id) views ∙ set_there s.views id v w at;
    }

    lawful_now : (log : List (Entry V)) (s : State (StripeSlot V) (View V)) (id : ℕ) (v : View V) → IsKept k set.callers log s → get_elem? s.views id ≡ some v → Lawful k v.held
    lawful_now log s id v r at = (shows k set.callers log (world (2 ^ k.s) r.trace s) r.law id v at).lawful

    module _ (slots id : ℕ) (m : Hand V) where
      take_by : (t : ℕ) → t < 2 ^ k.s → IsAbove t (numbers m.0.held) → HasNumber m.0 → (s : State (StripeSlot V) (View V)) (log : List (Entry V)) (r : IsKept k set.callers log s) → get_elem? s.views id ≡ some m.0 → (b : ℕ) → get_or s.words (t * 8) 0 ≡ b → b < 2
          → (w : View V) × (a : Act (StripeSlot V)) × Valid s.homes m.1 a × RuleOf hash set (stepped s (t * 8) 1 id m.1 w a) × SeatTries hash set t m (get_or s.words (t * 8) 0) (w, carried_after m.1 a)
      take_by t l above number s log r at zero e h =
          let free : get_or (spaced (2 ^ k.s) s.words) t 0 ≡ 0 = spaced-at (2 ^ k.s) t s.words l ∙ e in
          let c : Content V = r.law.contents t in
          let there = r.law.places.at_home t l free in
          let slot = lies_there s.homes t c there in
          let stripe : StripeState V = slot.0 in
          let there2 : get_elem? (map lying s.homes) t ≡ some (Some stripe.content) = there ∙ ap (λ (x : Content V). some (Some x)) (sym slot.2) in
          let trace : List (LockEvent V) = r.trace ++ event m.0.by Took t ∷ [] in
          let w : View V = given k set.callers Took r.trace t (record m.0 { held = (t, stripe.content) ∷ m.0.held; seen = log }) in
          let after : Configuration V = taken (world (2 ^ k.s) r.trace s) id m.0 t stripe.content log in
          let kept : IsKept k set.callers log (stepped s (t * 8) 1 id m.1 w (takes t (Some stripe))) =
          kept_at k set.callers log s t 1 none (slice_set s.views id w) l r.words_sized trace (take_keeps k set.callers log (world (2 ^ k.s) r.trace s) r.law id m.0 at t stripe.content l free there2 number) (home_out k.s s.homes t r.at_home) in
          let steps : Steps hash set (Take t) m.0 w = steps_from (Take t) log s id m.0 w after r at (m.0, stripe.content, at, l, free, above, there2, number, refl) refl in
          (w, takes t (Some stripe), slot.1, (log, kept), ((λ _. (stripe, r.at_home t stripe slot.1, refl, inl (refl, refl), steps)), (λ ne. absurd (ne e))))
      take_by t l above number s log r at (suc zero) e h =
          let trace : List (LockEvent V) = r.trace ++ event m.0.by Missed t ∷ [] in
          let w : View V = given k set.callers Missed r.trace t m.0 in
          let held : get_or (spaced (2 ^ k.s) s.words) t 0 ≡ 1 = spaced-at (2 ^ k.s) t s.words l ∙ e in
          let own : ¬ (IsIn t (numbers m.0.held)) = λ i. let z = above t i in omega arith in
          let kept = unmoved k set.callers log s id (t * 8) 1 w m.1 (sym e) r trace (find_keeps k set.callers log (world (2 ^ k.s) r.trace s) r.law id m.0 at t l held own number) in
          let steps : Steps hash set (FindHeld t) m.0 w = steps_from (FindHeld t) log s id m.0 w (missed (world (2 ^ k.s) r.trace s) id m.0 t) r at (m.0, at, l, held, own, number, refl) refl in
          (w, keeps, tt, (log, kept), ((λ z. absurd (omega arith)), (λ _. (refl, steps))))
      take_by t l above number s log r at (suc (suc b)) e h = absurd (omega arith)

      pub take_allowed : (t : ℕ) → t < 2 ^ k.s → IsAbove t (numbers m.0.held) → HasNumber m.0 → Allows (RuleOf hash set) slots id m (t * 8) (λ _. 1) (SeatTries hash set t m)
      take_allowed t l above number s r _ at _ = take_by t l above number s r.0 r.1 at (get_or s.words (t * 8) 0) refl (subst (λ b. b < 2) (spaced-at (2 ^ k.s) t s.words l) (r.1.law.places.is_bit t l))

      module _ (t : ℕ) (stripe : StripeState V) (out : List (ℕ × StripeSlot V)) (is : m.1 ≡ (t, Some stripe) ∷ out) (l : t < 2 ^ k.s) (own : IsAtHome k.s t stripe) where
        pub give_allowed : (g : Option (Name × Reason)) → Holds m.0.held t stripe.content → (Lawful k m.0.held → IsExcused k set.min_load m.0.held g) → Allows (RuleOf hash set) slots id m (t * 8) (λ _. 0) (λ _. SeatGives hash set (Give t g) m)
        give_allowed g h excused s r _ at _ =
            let w : View V = giving m.0 t stripe.content m.0.held g in
            let kept = gave k set.callers (Gave []) r.0 r.0 s id t stripe w m.1 out is l own r.1 (give_keeps k set.callers r.0 (world (2 ^ k.s) r.1.trace s) r.1.law id m.0 at t stripe.content g h) in
            (given k set.callers (Gave []) r.1.trace t w, gives, tt, (r.0, kept), (refl, steps_from (Give t g) r.0 s id m.0 (given k set.callers (Gave []) r.1.trace t w) (sent_home (Gave []) (world (2 ^ k.s) r.1.trace s) id t stripe.content w) r.1 at (m.0, stripe.content, at, h, excused (lawful_now r.0 s id m.0 r.1 at), refl) refl))

        module _ (h : Holds (contents_in m.1) t stripe.content) where
          pub renew_allowed : (g : Option (Name × Reason)) → (Lawful k m.0.held → IdentitySection k m.0.held (contents_in m.1)) → (Lawful k m.0.held → Lawful k (contents_in m.1) → HasGrounds k set.min_load (contents_in m.1) g)
              → Allows (RuleOf hash set) slots id m (t * 8) (λ _. 0) (λ _. SeatGives hash set (Renew t (contents_in m.1) g) m)
          renew_allowed g section grounds s r _ at _ =
              let w : View V = renewing m.0 t stripe.content (contents_in m.1) g in
              let lawful = lawful_now r.0 s id m.0 r.1 at in
              let sec = section lawful in
              let kept = gave k set.callers (Gave (contents_in m.1)) r.0 r.0 s id t stripe w m.1 out is l own r.1 (renew_keeps k set.callers r.0 (world (2 ^ k.s) r.1.trace s) r.1.law id m.0 at (contents_in m.1) t stripe.content h g sec) in
              (given k set.callers (Gave (contents_in m.1)) r.1.trace t w, gives, tt, (r.0, kept), (refl, steps_from (Renew t (contents_in m.1) g) r.0 s id m.0 (given k set.callers (Gave (contents_in m.1)) r.1.trace t w) (sent_home (Gave (contents_in m.1)) (world (2 ^ k.s) r.1.trace s) id t stripe.content w) r.1 at (m.0, stripe.content, at, h, sec, grounds lawful sec.renewed.lawful, refl) refl))

          pub decide_allowed : (e : Entry V) → m.0.by ≡ Some e.by → (Lawful k m.0.held → Section k m.0.held e.call e.reply (contents_in m.1))
              → Allows (RuleOf hash set) slots id m (t * 8) (λ _. 0) (λ _. SeatGives hash set (Decide t (contents_in m.1) e) m)
          decide_allowed e by section s r _ at _ =
              let w : View V = deciding m.0 t (contents_in m.1) r.0 e in
              let sec = section (lawful_now r.0 s id m.0 r.1 at) in
              let kept = gave k set.callers (Decided e (contents_in m.1)) r.0 (r.0 ++ e ∷ []) s id t stripe w m.1 out is l own r.1 (decide_keeps k set.callers r.0 (world (2 ^ k.s) r.1.trace s) r.1.law id m.0 at (contents_in m.1) t stripe.content h e by sec) in
              (given k set.callers (Decided e (contents_in m.1)) r.1.trace t w, gives, tt, (r.0 ++ e ∷ [], kept), (refl, steps_from (Decide t (contents_in m.1) e) r.0 s id m.0 (given k set.callers (Decided e (contents_in m.1)) r.1.trace t w) (sent_home (Decided e (contents_in m.1)) (world (2 ^ k.s) r.1.trace s) id t stripe.content w) r.1 at (m.0, stripe.content, at, by, h, sec, refl) refl))

      pub look_allowed : (t : ℕ) → t < 2 ^ k.s → Allows (RuleOf hash set) slots id m (t * 8) (λ x. x) (λ _. SeatLooks hash set t m)
      look_allowed t l s r _ at _ =
          let p : ℕ = max m.0.told m.0.heard_told in
          let w : View V = record m.0 { seen = r.0; told = p; watched = r.1.trace } in
          let below = told_below k set.callers r.0 (world (2 ^ k.s) r.1.trace s) r.1.law id m.0 at in
          let kept = unmoved k set.callers r.0 s id (t * 8) (get_or s.words (t * 8) 0) w m.1 refl r.1 r.1.trace (look_keeps k set.callers r.0 (world (2 ^ k.s) r.1.trace s) r.1.law id m.0 at p below) in
          (w, keeps, tt, (r.0, kept), (refl, (p, omega arith, steps_from (Look t p) r.0 s id m.0 w (seen_as (world (2 ^ k.s) r.1.trace s) id w) r.1 at (m.0, at, l, omega arith, below, refl) refl)))
