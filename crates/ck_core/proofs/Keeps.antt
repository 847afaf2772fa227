-- Each step of the core keeps the invariant.
use Rattle.std.proofs.Common.{◌≡◌, ◌≢◌, ◌⊎◌, ℕ, ◌^◌, zero, suc, ◌<◌, ◌≤◌, max, inl, inr, List, [], ◌∷◌, ◌++◌, set, get_or, sym, refl, ap, ◌∙◌, subst, ⊎_elim, arith, le_of_eq, le_trans, zero-le, Option, Some, None}
use mathlib.Core.Option.{some, some-injective}
use lib.ListN.{get_elem?}
use Rattle.std.proofs.lemmas.Option.{none-some}
use Rattle.std.proofs.Math.Nat.{one-le-pow}
use Rattle.ck_model.specs.declared.history.Entry.{Entry}
use Rattle.ck_model.specs.declared.history.Reason.{Reason}
use Rattle.ck_core.specs.declared.view.View.{View}
use Rattle.ck_model.specs.Promise.{Name, After, StartsWith}
use Rattle.ck_model.specs.Numbered.{IsIn, AreDistinct, numbers, Holds, without, over}
use Rattle.ck_model.specs.declared.contents.Content.{Content}
use Rattle.ck_model.specs.Contents.{Layout, Stripes, bindings, Lawful, whole}
use Rattle.ck_model.specs.Sections.{HasAll, Renewed, Section, IdentitySection}
use Rattle.ck_model.specs.Laws.{ArePartOf}
use Rattle.ck_model.proofs.Numbered.{Some-injective, in_held, held_of_in, held_either, held_first, held_second, in_either, in_first, in_second, distinct_between, distinct_cut, listed_at, over_miss, over_hit, in_without}
use Rattle.ck_model.proofs.Sections.{section_of_whole, identity_of_whole, power_after}
use Rattle.ck_model.proofs.Histories.{leads_snoc}
use Rattle.ck_core.specs.Trace.{steps_of}
use Rattle.ck_core.specs.State.{Configuration, HasNumber, IsPart, author_of, own, owned, Places, Knows, Watches, Traces, HistoryInvariant}
use Rattle.ck_core.specs.declared.trace.LockStep.{LockStep}
use Rattle.ck_core.specs.declared.trace.LockStep.TheVariants.{Took, Missed, Gave, Decided}
use Rattle.ck_core.specs.Steps.{Label, number_of, event, traced, stepping, taken, missed, seen_as, sent_home, giving, renewing, deciding, beginner, message_of, spent, joining, split_as, joined, Transition, grown, Execution}
use Rattle.ck_core.specs.Steps.Label.{Take, FindHeld, Give, Decide, GiveRest, Renew, Look, Open, Tell, Join}
use Rattle.ck_core.proofs.Lists.{at_within, each_set, each_snoc, set_else}
use Rattle.ck_core.proofs.Places.{places_keep, places_take, places_back, places_split}
use Rattle.ck_core.proofs.Traces.{traces_take, traces_miss, traces_back, traces_keep, traces_split, traces_join, watches_as, watches_all}
use Rattle.ck_core.proofs.LegalTraces.{Returns, returns_gave, returns_decided, decided_same, decided_more, content_more}
use Rattle.ck_core.proofs.Sees.{sees_none}
use Rattle.ck_core.proofs.Callers.{none_subhistory, seen_starts, knows_all, knows_same, callers_set, callers_add, callers_split, callers_join}

-- a stripe that went home isn't held
gone_home : {A : Type 0} (t : ℕ) (hs : List (ℕ × A)) → ¬ (IsIn t (numbers (without t hs)))
gone_home t hs i = let z = held_of_in (without t hs) t i in (in_without t hs t z.0 z.1).0 refl

module _ {V : Type 0} (k : Layout) (callers : ℕ) (log : List (Entry V)) (s : Configuration V) (law : HistoryInvariant k callers log s) (id : ℕ) (v : View V) (at : get_elem? s.views id ≡ some v) where
  abbrev Told : (ℕ → Content V) → ℕ → View V → Type 0
  Told w j u = (t : ℕ) → t < 2 ^ k.s → (u.told ≤ (w t).power) × (u.heard_told ≤ (w t).power)

  -- what is held is a caller's
  abbrev IsHolder : ℕ → View V → Type 0
  IsHolder _ u = (t : ℕ) (c : Content V) → Holds u.held t c → HasNumber u

  -- all is seen where all stripes are held
  abbrev HasSeen : List (Entry V) → ℕ → View V → Type 0
  HasSeen l _ u = HasAll k u.held → u.seen ≡ l

  -- what was watched doesn't change, for a view with no number besides
  watched_as : (w : View V) → w.watched ≡ v.watched → ((m : ℕ) → IsIn m (numbers (owned w)) → IsIn m (numbers (owned v))) → ((m : ℕ) → w.by ≡ Some m → steps_of m w.watched ≡ w.steps) → StartsWith w.watched w.heard_watched → Watches s.trace w
  watched_as w = watches_as s.trace v w (law.traced.watched id v at)

  -- where no stripe is held, not all are
  not_all : (hs : Stripes V) → hs ≡ [] → ¬ (HasAll k hs)
  not_all hs none all = let one : 1 ≤ 2 ^ k.s = one-le-pow k.s 2 (omega arith) in subst (λ (l : Stripes V). IsIn 0 (numbers l)) none (all 0 (omega arith))

  pub agrees : ArePartOf k law.contents v.held
  agrees t c h = let f = law.places.holds id v at t c h in (f.0, f.3)

  pub take_keeps : (t : ℕ) (c : Content V) → t < 2 ^ k.s → get_or s.words t 0 ≡ 0 → get_elem? s.homes t ≡ some (Some c) → HasNumber v → HistoryInvariant k callers log (taken s id v t c log)
  take_keeps t c l free there number =
      let e : law.contents t ≡ c = Some-injective (law.contents t) c (some-injective (Some (law.contents t)) (Some c) (sym (law.places.at_home t l free) ∙ there)) in
      let w : View V = stepping s Took t (record v { held = (t, c) ∷ v.held; seen = log }) in
      record {
        contents = law.contents;
        places = places_take (2 ^ k.s) s law.contents law.places id v at t (traced s v Took t) w l free (ap (λ (x : Content V). (t, x) ∷ v.held) (sym e));
        holders = each_set IsHolder s.views id w (λ q d _. number) (λ j u _ a. law.holders j u a);
        all_seen = each_set (HasSeen log) s.views id w (λ _. refl) (λ j u _ a. law.all_seen j u a);
        lawful = law.lawful;
        told = each_set (Told law.contents) s.views id w (law.told id v at) (λ j u _ a. law.told j u a);
        callers_known = callers_set callers log s.views id v w law.callers_known at refl (knows_all callers log v w (law.callers_known.knows id v at) refl refl refl refl refl);
        traced = traces_take (2 ^ k.s) callers log s law.contents law.places law.callers_known law.traced id v at number.0 number.1 t c log l free;
        opened = law.opened;
        contained = λ q l. content_more k.s law.opened s.trace (event v.by Took t) q law.contents (law.contained q l);
        decided = decided_same log s.trace (event v.by Took t) law.decided refl;
        legal = law.legal;
      }

  -- a step that changes what the view knows, and no word
  pub seen_keeps : (w : View V) → w.held ≡ v.held → w.by ≡ v.by → (HasAll k v.held → w.seen ≡ log) → owned w ≡ owned v → Knows callers log w → Told law.contents id w → Watches s.trace w → HistoryInvariant k callers log (seen_as s id w)
  seen_keeps w held by seen same kn told watches = record {
    contents = law.contents;
    places = places_keep (2 ^ k.s) s law.contents law.places id v at s.trace w held;
    holders = each_set IsHolder s.views id w (λ q d h. let m = law.holders id v at q d (subst (λ (hs : Stripes V). Holds hs q d) held h) in (m.0, by ∙ m.1)) (λ j u _ a. law.holders j u a);
    all_seen = each_set (HasSeen log) s.views id w (λ all. seen (subst (HasAll k) held all)) (λ j u _ a. law.all_seen j u a);
    lawful = law.lawful;
    told = each_set (Told law.contents) s.views id w told (λ j u _ a. law.told j u a);
    callers_known = callers_set callers log s.views id v w law.callers_known at same kn;
    traced = traces_keep (2 ^ k.s) callers log s law.contents law.places law.callers_known law.traced id v at w held by watches;
    opened = law.opened;
    contained = law.contained;
    decided = law.decided;
    legal = law.legal;
  }

  pub find_keeps : (t : ℕ) → t < 2 ^ k.s → get_or s.words t 0 ≡ 1 → ¬ (IsIn t (numbers v.held)) → HasNumber v → HistoryInvariant k callers log (missed s id v t)
  find_keeps t l one not_own number =
      let w : View V = stepping s Missed t v in
      record {
        contents = law.contents;
        places = places_keep (2 ^ k.s) s law.contents law.places id v at (traced s v Missed t) w refl;
        holders = each_set IsHolder s.views id w (law.holders id v at) (λ j u _ a. law.holders j u a);
        all_seen = each_set (HasSeen log) s.views id w (law.all_seen id v at) (λ j u _ a. law.all_seen j u a);
        lawful = law.lawful;
        told = each_set (Told law.contents) s.views id w (law.told id v at) (λ j u _ a. law.told j u a);
        callers_known = callers_set callers log s.views id v w law.callers_known at refl (knows_same callers log v w (law.callers_known.knows id v at) refl refl refl refl refl);
        traced = traces_miss (2 ^ k.s) callers log s law.contents law.places law.callers_known law.traced id v at number.0 number.1 t l one not_own law.holders;
        opened = law.opened;
        contained = λ q l. content_more k.s law.opened s.trace (event v.by Missed t) q law.contents (law.contained q l);
        decided = decided_same log s.trace (event v.by Missed t) law.decided refl;
        legal = law.legal;
      }

  max_le : (a b c : ℕ) → a ≤ c → b ≤ c → max a b ≤ c
  max_le a b c h g = omega arith

  at_home : (u : ℕ) (c : Content V) → get_elem? s.homes u ≡ some (Some c) → u < 2 ^ k.s → (b : ℕ) → get_or s.words u 0 ≡ b → b < 2 → law.contents u ≡ c
  at_home u c there l zero e h = Some-injective (law.contents u) c (some-injective (Some (law.contents u)) (Some c) (sym (law.places.at_home u l e) ∙ there))
  at_home u c there l (suc zero) e h = absurd (none-some c (some-injective None (Some c) (sym (law.places.is_out u l e) ∙ there)))
  at_home u c there l (suc (suc b)) e h = absurd (omega arith)

  part_of_whole : (u : ℕ) (c : Content V) → IsPart s u c → (u < 2 ^ k.s) × (law.contents u ≡ c)
  part_of_whole u c h = ⊎_elim
      (λ there. let l : u < 2 ^ k.s = subst (λ n. u < n) law.places.homes_sized (at_within s.homes u (Some c) there) in (l, at_home u c there l (get_or s.words u 0) refl (law.places.is_bit u l)))
      (λ held. let f = law.places.holds held.0 held.1 held.2 u c held.3 in (f.0, f.3)) h

  -- no stripe has a power below what the caller was told or has heard
  pub told_below : (u : ℕ) (c : Content V) → IsPart s u c → max v.told v.heard_told ≤ c.power
  told_below u c h =
      let part = part_of_whole u c h in
      let told = law.told id v at u part.0 in
      subst (λ (x : Content V). max v.told v.heard_told ≤ x.power) part.1 (max_le v.told v.heard_told ((law.contents u).power) told.0 told.1)

  whole_is_part : (t : ℕ) → t < 2 ^ k.s → IsPart s t (law.contents t)
  whole_is_part t l = by (get_or s.words t 0) refl (law.places.is_bit t l)
    where
      by : (b : ℕ) → get_or s.words t 0 ≡ b → b < 2 → IsPart s t (law.contents t)
      by zero e h = inl (law.places.at_home t l e)
      by (suc zero) e h = let z = law.places.is_held t l e in inr (law.places.owner t, z.0, z.1, z.2)
      by (suc (suc b)) e h = absurd (omega arith)

  pub look_keeps : (p : ℕ) → ((u : ℕ) (c : Content V) → IsPart s u c → p ≤ c.power) → HistoryInvariant k callers log (seen_as s id (record v { seen = log; told = p; watched = s.trace }))
  look_keeps p h = let w : View V = record v { seen = log; told = p; watched = s.trace } in
      seen_keeps w refl refl (λ _. refl) refl (knows_all callers log v w (law.callers_known.knows id v at) refl refl refl refl refl) (λ t l. (h t (law.contents t) (whole_is_part t l), (law.told id v at t l).1)) (watches_all s.trace v w (law.traced.watched id v at) refl refl refl refl)

  same_power : (w : ℕ → Content V) → Lawful k (whole k w) → (t u : ℕ) (c : Content V) → t < 2 ^ k.s → u < 2 ^ k.s → w t ≡ c → c.power ≤ (w u).power
  same_power w lawful t u c l m e = le_of_eq (ap (λ (x : Content V). x.power) (sym e) ∙ lawful.one_power t u (w t) (w u) (listed_at (2 ^ k.s) w t l) (listed_at (2 ^ k.s) w u m))

  -- a stripe goes home
  back : (step : LockStep V) → ((m : ℕ) → v.by ≡ Some m → Returns m step) → (ks : Stripes V) (t : ℕ) (c : Content V) (w : View V) → numbers ks ≡ numbers v.held → Holds ks t c → w.held ≡ without t ks → w.by ≡ v.by → w.steps ≡ v.steps → w.heard_watched ≡ v.heard_watched → Traces (2 ^ k.s) callers (sent_home step s id t c w)
  back step returns ks t c w same here is by steps heard =
      let old = held_of_in v.held t (subst (IsIn t) same (in_held ks t c here)) in
      let number = law.holders id v at t old.0 old.1 in
      traces_back (2 ^ k.s) callers log s law.contents law.places law.callers_known law.traced id v at number.0 number.1 step (returns number.0 number.1) ks t c w same here is by steps heard

  pub give_keeps : (t : ℕ) (c : Content V) (g : Option (Name × Reason)) → Holds v.held t c → HistoryInvariant k callers log (sent_home (Gave []) s id t c (giving v t c v.held g))
  give_keeps t c g h =
      let w : View V = giving v t c v.held g in
      let now : View V = stepping s (Gave []) t w in
      let f = law.places.holds id v at t c h in
      record {
        contents = law.contents;
        places = places_back (2 ^ k.s) s law.contents law.places id v at (Gave []) v.held t c w law.contents refl h refl (λ q _. refl) (λ q d x. (law.places.holds id v at q d x).3);
        holders = each_set IsHolder s.views id now (λ q d _. law.holders id v at t c h) (λ j u _ a. law.holders j u a);
        all_seen = each_set (HasSeen log) s.views id now (λ all. absurd (gone_home t v.held (all t f.0))) (λ j u _ a. law.all_seen j u a);
        lawful = law.lawful;
        told = each_set (Told law.contents) s.views id now (λ u m. (max_le v.told (c.power) ((law.contents u).power) (law.told id v at u m).0 (same_power law.contents law.lawful t u c f.0 m f.3), (law.told id v at u m).1)) (λ j u _ a. law.told j u a);
        callers_known = callers_set callers log s.views id v now law.callers_known at refl (knows_same callers log v now (law.callers_known.knows id v at) refl refl refl refl refl);
        traced = back (Gave []) (λ m _. returns_gave m []) v.held t c w refl h refl refl refl refl;
        opened = law.opened;
        contained = λ q l. content_more k.s law.opened s.trace (event w.by (Gave []) t) q law.contents (law.contained q l);
        decided = decided_same log s.trace (event w.by (Gave []) t) law.decided refl;
        legal = law.legal;
      }

  module _ (ks : Stripes V) (t : ℕ) (c : Content V) (here : Holds ks t c) where
    abbrev contents2 : ℕ → Content V
    contents2 = over ks law.contents

    module _ (r : Renewed k v.held ks) where
      apart : AreDistinct (numbers ks)
      apart = subst AreDistinct (sym r.same) (law.places.distinct id v at)

      placed : (step : LockStep V) (w : View V) → w.held ≡ without t ks → Places (2 ^ k.s) (sent_home step s id t c w) contents2
      placed step w is = places_back (2 ^ k.s) s law.contents law.places id v at step ks t c w contents2 r.same here is (λ q out. over_miss ks law.contents q out) (λ q d x. over_hit ks law.contents apart q d x)

      others_told : (j : ℕ) (u : View V) → get_elem? s.views j ≡ some u → Told contents2 j u
      others_told j u a q l =
          let p = power_after k law.contents v.held ks agrees r q l in
          (le_trans (law.told j u a q l).0 p, le_trans (law.told j u a q l).1 p)

      -- the stripe that goes home was held
      was_held : (d : Content V) × Holds v.held t d
      was_held = held_of_in v.held t (subst (IsIn t) r.same (in_held ks t c here))

      below : t < 2 ^ k.s
      below = (agrees t was_held.0 was_held.1).0

      -- so that no other holds all
      others_lack : (j : ℕ) (u : View V) → j ≢ id → get_elem? s.views j ≡ some u → ¬ (HasAll k u.held)
      others_lack j u other a all =
          let d = held_of_in u.held t (all t below) in
          other (sym (law.places.holds j u a t d.0 d.1).2 ∙ (law.places.holds id v at t was_held.0 was_held.1).2)

    pub decide_keeps : (e : Entry V) → v.by ≡ Some e.by → Section k v.held e.call e.reply ks → HistoryInvariant k callers (log ++ e ∷ []) (sent_home (Decided e ks) s id t c (deciding v t ks log e))
    decide_keeps e by sec =
        let w : View V = deciding v t ks log e in
        let now : View V = stepping s (Decided e ks) t w in
        let z = section_of_whole k law.contents v.held ks law.lawful agrees e.call e.reply sec in
        record {
          contents = contents2;
          places = placed sec.renewed (Decided e ks) w refl;
          holders = each_set IsHolder s.views id now (λ q d _. (e.by, by)) (λ j u _ a. law.holders j u a);
          all_seen = each_set (HasSeen (log ++ e ∷ [])) s.views id now (λ all. absurd (gone_home t ks (all t (below sec.renewed)))) (λ j u other a all. absurd (others_lack sec.renewed j u other a all));
          lawful = z.0;
          told = each_set (Told contents2) s.views id now (others_told sec.renewed id v at) (λ j u _ a. others_told sec.renewed j u a);
          callers_known = callers_add callers log s.views id v now e law.callers_known at by refl refl refl refl refl;
          traced = back (Decided e ks) (λ m is. returns_decided m e ks (Some-injective e.by m (sym by ∙ is))) ks t c w sec.renewed.same here refl refl refl refl;
          opened = law.opened;
          contained = λ q l. content_more k.s law.opened s.trace (event w.by (Decided e ks) t) q law.contents (law.contained q l);
          decided = decided_more log s.trace (event w.by (Decided e ks) t) e law.decided refl;
          legal = leads_snoc _ (bindings (whole k law.contents)) (bindings (whole k contents2)) log e law.legal z.1;
        }

    pub renew_keeps : (g : Option (Name × Reason)) → IdentitySection k v.held ks → HistoryInvariant k callers log (sent_home (Gave ks) s id t c (renewing v t c ks g))
    renew_keeps g sec =
        let w : View V = renewing v t c ks g in
        let now : View V = stepping s (Gave ks) t w in
        let z = identity_of_whole k law.contents v.held ks law.lawful agrees sec in
        let p = placed sec.renewed (Gave ks) w refl in
        let at_t : contents2 t ≡ c = over_hit ks law.contents (apart sec.renewed) t c here in
        let d = was_held sec.renewed in
        let l = below sec.renewed in
        record {
          contents = contents2;
          places = p;
          holders = each_set IsHolder s.views id now (λ q x _. law.holders id v at t d.0 d.1) (λ j u _ a. law.holders j u a);
          all_seen = each_set (HasSeen log) s.views id now (λ all. absurd (gone_home t ks (all t l))) (λ j u _ a. law.all_seen j u a);
          lawful = z.0;
          told = each_set (Told contents2) s.views id now (λ u m. (max_le v.told (c.power) ((contents2 u).power) (others_told sec.renewed id v at u m).0 (same_power contents2 z.0 t u c l m at_t), (others_told sec.renewed id v at u m).1)) (λ j u _ a. others_told sec.renewed j u a);
          callers_known = callers_set callers log s.views id v now law.callers_known at refl (knows_same callers log v now (law.callers_known.knows id v at) refl refl refl refl refl);
          traced = back (Gave ks) (λ m _. returns_gave m ks) ks t c w sec.renewed.same here refl refl refl refl;
          opened = law.opened;
          contained = λ q l. content_more k.s law.opened s.trace (event w.by (Gave ks) t) q law.contents (law.contained q l);
          decided = decided_same log s.trace (event w.by (Gave ks) t) law.decided refl;
          legal = subst (After log) (sym z.1) law.legal;
        }

  -- splits and joins
  split_keeps : (left right : View V) → left.held ≡ v.held → left.by ≡ v.by → left.seen ≡ v.seen → right.held ≡ [] → Told law.contents id left → Told law.contents id right
      → ((m : ℕ) → IsIn m (numbers (owned left)) → IsIn m (numbers (owned v)) × ¬ (IsIn m (numbers (owned right)))) → ((m : ℕ) → IsIn m (numbers (owned right)) → IsIn m (numbers (owned v)))
      → Knows callers log left → Knows callers log right → Watches s.trace left → Watches s.trace right → HistoryInvariant k callers log (split_as s id left right)
  split_keeps left right same by seen none tl tr of_left of_right kl kr wl wr = record {
    contents = law.contents;
    places = places_split (2 ^ k.s) s law.contents law.places id v at left right same none;
    holders = each_snoc IsHolder (set s.views id left) right
        (each_set IsHolder s.views id left (λ q d h. let m = law.holders id v at q d (subst (λ (hs : Stripes V). Holds hs q d) same h) in (m.0, by ∙ m.1)) (λ j u _ a. law.holders j u a))
        (λ q d h. absurd (subst (λ (hs : Stripes V). Holds hs q d) none h));
    all_seen = each_snoc (HasSeen log) (set s.views id left) right
        (each_set (HasSeen log) s.views id left (λ all. seen ∙ law.all_seen id v at (subst (HasAll k) same all)) (λ j u _ a. law.all_seen j u a))
        (λ all. absurd (not_all right.held none all));
    lawful = law.lawful;
    told = each_snoc (Told law.contents) (set s.views id left) right (each_set (Told law.contents) s.views id left tl (λ j u _ a. law.told j u a)) tr;
    callers_known = callers_split callers log s.views id v left right law.callers_known at of_left of_right kl kr;
    traced = traces_split (2 ^ k.s) callers log s law.contents law.places law.callers_known law.traced id v at left right same by none wl wr;
    opened = law.opened;
    contained = law.contained;
    decided = law.decided;
    legal = law.legal;
  }

  pub open_keeps : (m : ℕ) (rest : List (ℕ × List (Entry V))) → v.others ≡ (m, []) ∷ rest → HistoryInvariant k callers log (split_as s id (record v { others = rest }) (beginner v m))
  open_keeps m rest is =
      let left : View V = record v { others = rest } in
      let right : View V = beginner v m in
      let kn = law.callers_known.knows id v at in
      let ow : owned v ≡ own v.by v.mine ++ ((m, []) ∷ rest) = ap (λ (o : List (ℕ × List (Entry V))). own v.by v.mine ++ o) is in
      let there : (x : ℕ) → IsIn x (numbers (owned left)) → IsIn x (numbers (owned v)) = λ x i. subst (λ (o : List (ℕ × List (Entry V))). IsIn x (numbers o)) (sym ow)
      (⊎_elim (λ h. in_first (own v.by v.mine) ((m, []) ∷ rest) x h) (λ h. in_second (own v.by v.mine) ((m, []) ∷ rest) x (inr h)) (in_either (own v.by v.mine) rest x i)) in
      let m_there : Holds (owned v) m [] = subst (λ (o : List (ℕ × List (Entry V))). Holds o m []) (sym ow) (held_second (own v.by v.mine) ((m, []) ∷ rest) m [] (inl (refl, refl))) in
      let apart : AreDistinct (numbers (own v.by v.mine ++ ((m, []) ∷ rest))) = subst (λ (o : List (ℕ × List (Entry V))). AreDistinct (numbers o)) ow kn.distinct in
      let cut = distinct_cut (own v.by v.mine) (m, []) rest apart in
      split_keeps left right refl refl refl refl (law.told id v at) (λ t l. ((law.told id v at t l).0, zero-le)) (λ x i. (there x i, λ h. ⊎_elim (λ e. cut.1 (subst (λ y. IsIn y (numbers (owned left))) (sym e) i)) (λ z. absurd z) h))
      (λ x h. ⊎_elim (λ e. subst (λ y. IsIn y (numbers (owned v))) e (in_held (owned v) m [] m_there)) (λ z. absurd z) h)
      (record {
        sees = kn.sees;
        heard = kn.heard;
        calls = λ x l h. kn.calls x l (subst (λ (o : List (ℕ × List (Entry V))). Holds o x l) (sym ow)
            (⊎_elim (λ y. held_first (own v.by v.mine) ((m, []) ∷ rest) x l y) (λ y. held_second (own v.by v.mine) ((m, []) ∷ rest) x l (inr y)) (held_either (own v.by v.mine) rest x l h)));
        distinct = cut.0;
        within = λ x i. kn.within x (there x i);
      })
      (record {
        sees = record { unseen = log; begins = refl; by_others = λ x e. none_subhistory x log (kn.calls x [] (subst (λ (y : Option ℕ). Holds (owned v) (number_of y) []) e m_there)) };
        heard = (log, refl);
        calls = λ x l h. ⊎_elim (λ (e : (m ≡ x) × ([] ≡ l)). kn.calls x l (subst (λ (y : ℕ × List (Entry V)). Holds (owned v) y.0 y.1) (λ i. (e.0 i, e.1 i)) m_there)) (λ z. absurd z) h;
        distinct = ((λ z. z), tt);
        within = λ x i. ⊎_elim (λ e. subst (λ y. y < callers) e (kn.within m (in_held (owned v) m [] m_there))) (λ z. absurd z) i;
      })
      (watched_as left refl there (law.traced.watched id v at).own (law.traced.watched id v at).heard)
      (watched_as right refl (λ x i. ⊎_elim (λ e. subst (λ y. IsIn y (numbers (owned v))) e (in_held (owned v) m [] m_there)) (λ z. absurd z) i) (λ x e. ap (λ (o : Option ℕ). steps_of (number_of o) v.watched) (sym e)) (v.watched, refl))

  knows_nothing : (w : View V) → owned w ≡ [] → w.by ≡ None → StartsWith log w.seen → w.heard ≡ [] → Knows callers log w
  knows_nothing w none nobody seen heard = record {
    sees = sees_none author_of (λ m. w.by ≡ Some m) log w.seen seen.0 seen.1 (λ m e. none-some m (sym nobody ∙ e));
    heard = subst (StartsWith log) (sym heard) (log, refl);
    calls = λ m l h. absurd (subst (λ (o : List (ℕ × List (Entry V))). Holds o m l) none h);
    distinct = subst (λ (o : List (ℕ × List (Entry V))). AreDistinct (numbers o)) (sym none) tt;
    within = λ m i. absurd (subst (λ (o : List (ℕ × List (Entry V))). IsIn m (numbers o)) none i);
  }

  pub tell_keeps : HistoryInvariant k callers log (split_as s id v (message_of v))
  tell_keeps =
      let kn = law.callers_known.knows id v at in
      split_keeps v (message_of v) refl refl refl refl (law.told id v at) (λ t l. ((law.told id v at t l).0, zero-le)) (λ m i. (i, λ h. h)) (λ m h. absurd h) kn (knows_nothing (message_of v) refl refl (seen_starts callers log v kn) refl) (law.traced.watched id v at) (watched_as (message_of v) refl (λ m i. absurd i) (λ m e. absurd (none-some m e)) (v.watched, refl))

  pub join_keeps : (other : ℕ) (w : View V) → get_elem? s.views other ≡ some w → ¬ (other ≡ id) → w.held ≡ [] → HistoryInvariant k callers log (joined s id (joining v w) other)
  join_keeps other w there apart empty_handed =
      let both : View V = joining v w in
      let kv = law.callers_known.knows id v at in
      let kw = law.callers_known.knows other w there in
      let cs = law.callers_known in
      let s1 : Configuration V = seen_as s id both in
      let there1 : get_elem? s1.views other ≡ some w = set_else s.views id other both apart ∙ there in
      let of_both : (m : ℕ) → IsIn m (numbers (owned both)) → IsIn m (numbers (owned v)) ⊎ IsIn m (numbers (owned w)) = λ m i.
      ⊎_elim (λ h. inl (in_first (own v.by v.mine) v.others m h))
      (λ r. ⊎_elim (λ h. inr h) (λ h. inl (in_second (own v.by v.mine) v.others m h)) (in_either (owned w) v.others m r))
      (in_either (own v.by v.mine) (owned w ++ v.others) m i) in
      record {
        contents = law.contents;
        places = places_keep (2 ^ k.s) s1 law.contents (places_keep (2 ^ k.s) s law.contents law.places id v at s.trace both refl) other w there1 s.trace spent (sym empty_handed);
        holders = each_set IsHolder (set s.views id both) other spent (λ q d h. absurd h)
            (λ j u _ a. each_set IsHolder s.views id both (λ q d h. law.holders id v at q d h) (λ j u _ a. law.holders j u a) j u a);
        all_seen = each_set (HasSeen log) (set s.views id both) other spent (λ all. absurd (not_all [] refl all))
            (λ j u _ a. each_set (HasSeen log) s.views id both (λ all. law.all_seen id v at all) (λ j u _ a. law.all_seen j u a) j u a);
        lawful = law.lawful;
        told = each_set (Told law.contents) (set s.views id both) other spent (λ t l. (zero-le, zero-le))
            (λ j u _ a. each_set (Told law.contents) s.views id both (λ t l. ((law.told id v at t l).0, (law.told other w there t l).0)) (λ j u _ a. law.told j u a) j u a);
        callers_known = callers_join callers log s.views id other v w both spent cs at there of_both
            (record {
              sees = kv.sees;
              heard = seen_starts callers log w kw;
              calls = λ m l h. ⊎_elim (λ y. kv.calls m l (held_first (own v.by v.mine) v.others m l y))
                  (λ r. ⊎_elim (λ y. kw.calls m l y) (λ y. kv.calls m l (held_second (own v.by v.mine) v.others m l y)) (held_either (owned w) v.others m l r))
                  (held_either (own v.by v.mine) (owned w ++ v.others) m l h);
              distinct = distinct_between (own v.by v.mine) (owned w) v.others kv.distinct kw.distinct (λ m i h. apart (sym (cs.keeps other w there m i) ∙ cs.keeps id v at m h));
              within = λ m i. ⊎_elim (kv.within m) (kw.within m) (of_both m i);
            })
            refl (knows_nothing spent refl refl (log, refl) refl);
        traced = traces_join (2 ^ k.s) callers log s law.contents law.places law.callers_known law.traced id v at other w there of_both;
        opened = law.opened;
        contained = law.contained;
        decided = law.decided;
        legal = law.legal;
      }

module _ {V : Type 0} (k : Layout) (min_load callers : ℕ) where
  -- What a step of any kind leaves. Contents are those since the same opening.
  pub step_tells : (log : List (Entry V)) (id : ℕ) (m : Label V) (s s2 : Configuration V) (law : HistoryInvariant k callers log s) → Transition k min_load log id m s s2 → (after : HistoryInvariant k callers (grown log m) s2) × (after.opened ≡ law.opened)
  unfolding take_keeps find_keeps give_keeps decide_keeps renew_keeps seen_keeps look_keeps split_keeps open_keeps tell_keeps join_keeps
  step_tells log id (Take t) s s2 law d = subst (λ (u : Configuration V). (after : HistoryInvariant k callers log u) × (after.opened ≡ law.opened)) (sym d.8) (take_keeps k callers log s law id d.0 d.2 t d.1 d.3 d.4 d.6 d.7, refl)
  step_tells log id (FindHeld t) s s2 law d = subst (λ (u : Configuration V). (after : HistoryInvariant k callers log u) × (after.opened ≡ law.opened)) (sym d.6) (find_keeps k callers log s law id d.0 d.1 t d.2 d.3 d.4 d.5, refl)
  step_tells log id (Give t g) s s2 law d = subst (λ (u : Configuration V). (after : HistoryInvariant k callers log u) × (after.opened ≡ law.opened)) (sym d.5) (give_keeps k callers log s law id d.0 d.2 t d.1 g d.3, refl)
  step_tells log id (Decide t ks e) s s2 law d = subst (λ (u : Configuration V). (after : HistoryInvariant k callers (log ++ e ∷ []) u) × (after.opened ≡ law.opened)) (sym d.6) (decide_keeps k callers log s law id d.0 d.2 ks t d.1 d.4 e d.3 d.5, refl)
  step_tells log id (GiveRest t) s s2 law d = subst (λ (u : Configuration V). (after : HistoryInvariant k callers log u) × (after.opened ≡ law.opened)) (sym d.4) (give_keeps k callers log s law id d.0 d.2 t d.1 None d.3, refl)
  step_tells log id (Renew t ks g) s s2 law d = subst (λ (u : Configuration V). (after : HistoryInvariant k callers log u) × (after.opened ≡ law.opened)) (sym d.6) (renew_keeps k callers log s law id d.0 d.2 ks t d.1 d.3 g d.4, refl)
  step_tells log id (Look t p) s s2 law d = subst (λ (u : Configuration V). (after : HistoryInvariant k callers log u) × (after.opened ≡ law.opened)) (sym d.5) (look_keeps k callers log s law id d.0 d.1 p d.4, refl)
  step_tells log id Open s s2 law d = subst (λ (u : Configuration V). (after : HistoryInvariant k callers log u) × (after.opened ≡ law.opened)) (sym d.5) (open_keeps k callers log s law id d.0 d.3 d.1 d.2 d.4, refl)
  step_tells log id Tell s s2 law d = subst (λ (u : Configuration V). (after : HistoryInvariant k callers log u) × (after.opened ≡ law.opened)) (sym d.2) (tell_keeps k callers log s law id d.0 d.1, refl)
  step_tells log id (Join other) s s2 law d = subst (λ (u : Configuration V). (after : HistoryInvariant k callers log u) × (after.opened ≡ law.opened)) (sym d.6) (join_keeps k callers log s law id d.0 d.2 other d.1 d.3 d.4 d.5, refl)

  -- a step of any kind
  pub step_keeps : (log : List (Entry V)) (id : ℕ) (m : Label V) (s s2 : Configuration V) → HistoryInvariant k callers log s → Transition k min_load log id m s s2 → HistoryInvariant k callers (grown log m) s2
  step_keeps log id m s s2 law d = (step_tells log id m s s2 law d).0

  pub run_keeps : (ms : List (ℕ × Label V)) (log : List (Entry V)) (s : Configuration V) (log2 : List (Entry V)) (s2 : Configuration V) → HistoryInvariant k callers log s → Execution k min_load log s ms log2 s2 → HistoryInvariant k callers log2 s2
  run_keeps [] log s log2 s2 law r = subst (λ (x : List (Entry V) × Configuration V). HistoryInvariant k callers x.0 x.1) (λ i. (r.0 i, r.1 i)) law
  run_keeps (m ∷ ms) log s log2 s2 law r = run_keeps ms (grown log m.1) r.0 log2 s2 (step_keeps log m.0 m.1 s r.0 law r.1) r.2
