-- One history for all, and the order in time of the calls of a run.
use Rattle.std.proofs.Common.{◌≡◌, ◌⊎◌, ℕ, ◌<◌, List, [], ◌∷◌, ◌++◌, inl, inr, length, length-append, append_assoc, append-nil, set, sym, refl, ap, ◌∙◌, subst, ⊎_elim, arith, lt_of_not-le, Some}
use mathlib.Core.Option.{some, some-injective}
use mathlib.Core.Logic.{dite}
use native.Mathlib.Decide.{dec_le, ℕ_discrete}
use lib.ListN.{get_elem?}
use Rattle.ck_model.specs.declared.history.Entry.{Entry}
use Rattle.ck_model.specs.Promise.{StartsWith, subhistory}
use Rattle.ck_model.specs.Contents.{Layout, bindings, whole}
use Rattle.ck_model.proofs.Numbered.{if_same, if_else}
use Rattle.ck_model.proofs.Histories.{subhistory-own, starts_itself, starts_more}
use Rattle.ck_core.specs.declared.view.View.{View}
use Rattle.ck_core.specs.State.{Configuration, HistoryInvariant}
use Rattle.ck_core.specs.Steps.{Label, grown}
use Rattle.ck_core.specs.Steps.Label.{Take, FindHeld, Give, Decide, GiveRest, Renew, Look, Open, Tell, Join}
use Rattle.ck_core.specs.Order.{ViewsGrow, decision, decided, LawOfOneHistory, LawOfSeenHistory, LawOfGrowth, LawOfGrowingViews, LawOfDecisions, LawOfRealTime}
use Rattle.ck_core.proofs.Lists.{set_there, set_else, at_longer}
use Rattle.ck_core.proofs.Keeps.{run_keeps}
use Rattle.ck_core.proofs.Openings.{runs_keep}
use Rattle.ck_core.proofs.Callers.{seen_starts}
use Rattle.ck_core.proofs.Answered.{views_of}
use Rattle.ck_core.proofs.Shown.{no_items, no_second, others_none, shows}

module _ {A : Type 0} where
  -- a list is empty or has a last item
  last_of : (l : List A) → (l ≡ []) ⊎ ((start : List A) × (a : A) × (l ≡ start ++ a ∷ []))
  last_of [] = inl refl
  last_of (x ∷ xs) = inr (⊎_elim (λ e. ([], x, ap {B = List A} (λ l. x ∷ l) e)) (λ z. (x ∷ z.0, z.1, ap {B = List A} (λ l. x ∷ l) z.2)) (last_of xs))

  not_empty : (start : List A) (a : A) → ¬ (start ++ a ∷ [] ≡ [])
  not_empty start a e = let l = ap length (no_second start (a ∷ []) e) in absurd (omega arith)

  one_last : (xs ys : List A) (a b : A) → xs ++ a ∷ [] ≡ ys ++ b ∷ [] → a ≡ b
  one_last [] [] a b e = cc
  one_last [] (y ∷ ys) a b e = let t : [] ≡ ys ++ b ∷ [] = cc in absurd (not_empty ys b (sym t))
  one_last (x ∷ xs) [] a b e = let t : xs ++ a ∷ [] ≡ [] = cc in absurd (not_empty xs a t)
  one_last (x ∷ xs) (y ∷ ys) a b e = let t : xs ++ a ∷ [] ≡ ys ++ b ∷ [] = cc in one_last xs ys a b t

  -- two lists that begin by each other are one
  both_ways : (xs ys more rest : List A) → xs ≡ ys ++ more → ys ≡ xs ++ rest → xs ≡ ys
  both_ways xs ys more rest e f =
      let a = ap length e in
      let b = length-append ys more in
      let c = ap length f in
      let d = length-append xs rest in
      e ∙ (ap (λ l. ys ++ l) (no_items more (omega arith)) ∙ append-nil ys)

module _ {V : Type 0} where
  -- a caller has seen the history that ends by an entry of its own
  seen_to_last : (k : Layout) (callers : ℕ) (log : List (Entry V)) (s : Configuration V) → HistoryInvariant k callers log s → (start : List (Entry V)) (e : Entry V) → log ≡ start ++ e ∷ []
      → (j : ℕ) (v : View V) → get_elem? s.views j ≡ some v → v.by ≡ Some e.by → v.seen ≡ log
  seen_to_last k callers log s law start e is j v at by =
      let shown = shows k callers log s law j v at in
      let more = shown.seen.0 in
      let whole : log ≡ v.seen ++ more = shown.seen.1 in
      let unseen = shown.unseen e.by by more whole in
      ⊎_elim
      (λ none. sym (whole ∙ (ap (λ l. v.seen ++ l) none ∙ append-nil v.seen)))
      (λ (z : (rest : List (Entry V)) × (f : Entry V) × (more ≡ rest ++ f ∷ [])).
      let same : z.1 ≡ e = one_last (v.seen ++ z.0) start z.1 e (append_assoc v.seen z.0 (z.1 ∷ []) ∙ (ap (λ l. v.seen ++ l) (sym z.2) ∙ (sym whole ∙ is))) in
      absurd (not_empty (subhistory e.by z.0) z.1 (sym (subhistory-own e.by z.0 z.1 (ap (λ (x : Entry V). x.by) same)) ∙ (ap (subhistory e.by) (sym z.2) ∙ unseen))))
      (last_of more)

  pub law_of_seen_history : LawOfSeenHistory V
  law_of_seen_history k callers log s law stand = ⊎_elim (λ none. inl none)
      (λ (z : (start : List (Entry V)) × (e : Entry V) × (log ≡ start ++ e ∷ [])).
      let by = z.1.by in
      let own : subhistory by log ≡ subhistory by z.0 ++ z.1 ∷ [] = ap (subhistory by) z.2 ∙ subhistory-own by z.0 z.1 refl in
      let below : by < callers = dite (dec_le callers by) (λ le. absurd (not_empty (subhistory by z.0) z.1 (sym own ∙ others_none k callers log s law by le))) (λ no_le. lt_of_not-le no_le) in
      let it = stand by below in
      inr (it.0, it.1, it.2, seen_to_last k callers log s law z.0 z.1 z.2 it.0 it.1 it.2 it.3))
      (last_of log)

  pub law_of_growth : LawOfGrowth V
  law_of_growth k callers log log2 s s2 law law2 stand grow = ⊎_elim
      (λ none. (log2, ap (λ l. l ++ log2) (sym none)))
      (λ (z : (j : ℕ) × (v : View V) × (get_elem? s.views j ≡ some v) × (v.seen ≡ log)).
      let it = grow z.0 z.1 z.2 in
      let seen = seen_starts callers _ it.1 (law2.callers_known.knows it.0 it.1 it.2) in
      (it.3.0 ++ seen.0, seen.1 ∙ (ap (λ l. l ++ seen.0) it.3.1 ∙ (append_assoc z.1.seen it.3.0 seen.0 ∙ ap (λ l. l ++ (it.3.0 ++ seen.0)) z.3))))
      (law_of_seen_history k callers log s law stand)

  pub law_of_one_history : LawOfOneHistory V
  law_of_one_history k callers log log2 s law law2 stand =
      let same : ViewsGrow s s = λ j v at. (j, v, at, starts_itself v.seen) in
      let a = law_of_growth k callers log2 log s s law2 law stand same in
      let b = law_of_growth k callers log log2 s s law law2 stand same in
      both_ways log log2 a.0 b.0 a.1 b.1

  grown_by : (log : List (Entry V)) (m : Label V) → grown log m ≡ log ++ decision m
  grown_by log (Decide t ks e) = refl
  grown_by log (Take t) = sym (append-nil log)
  grown_by log (FindHeld t) = sym (append-nil log)
  grown_by log (Give t g) = sym (append-nil log)
  grown_by log (GiveRest t) = sym (append-nil log)
  grown_by log (Renew t ks g) = sym (append-nil log)
  grown_by log (Look t p) = sym (append-nil log)
  grown_by log Open = sym (append-nil log)
  grown_by log Tell = sym (append-nil log)
  grown_by log (Join other) = sym (append-nil log)

  pub law_of_decisions : LawOfDecisions V
  law_of_decisions k min_load log log2 s s2 [] r = sym (append-nil log ∙ r.0)
  law_of_decisions k min_load log log2 s s2 (m ∷ ms) r =
      law_of_decisions k min_load (grown log m.1) log2 r.0 s2 ms r.2 ∙ (ap (λ l. l ++ decided ms) (grown_by log m.1) ∙ append_assoc log (decision m.1) (decided ms))

  -- a caller's only entry stands somewhere
  place_of : (m : ℕ) (e : Entry V) (es : List (Entry V)) → subhistory m es ≡ e ∷ [] → (l : List (Entry V)) × (r : List (Entry V)) × (es ≡ l ++ e ∷ r)
  place_of m e [] is = let l = ap length is in absurd (omega arith)
  place_of m e (x ∷ xs) is = dite (ℕ_discrete x.by m)
      (λ own. let one : x ∷ subhistory m xs ≡ e ∷ [] = sym (if_same x.by m (x ∷ subhistory m xs) (subhistory m xs) own) ∙ is in
      let same : x ≡ e = cc in
      ([], xs, ap {B = List (Entry V)} (λ y. y ∷ xs) same))
      (λ other. let z = place_of m e xs (sym (if_else x.by m (x ∷ subhistory m xs) (subhistory m xs) other) ∙ is) in
      (x ∷ z.0, z.1, ap {B = List (Entry V)} (λ l. x ∷ l) z.2))

  pub law_of_real_time : LawOfRealTime V
  law_of_real_time k min_load set callers p id id2 e e2 before during between during2 after log1 log2 log3 log4 log5 s0 s1 s2 s3 s4 s5 opens run1 call run3 call2 run5 =
      let i1 = runs_keep k set callers p s0 opens min_load before log1 s1 run1 in
      let i2 = run_keeps k min_load callers during log1 s1 log2 s2 i1 call.runs in
      let i3 = run_keeps k min_load callers between log2 s2 log3 s3 i2 run3 in
      let i4 = run_keeps k min_load callers during2 log3 s3 log4 s4 i3 call2.runs in
      let i5 = run_keeps k min_load callers after log4 s4 log5 s5 i4 run5 in
      let a = place_of e.by e (decided during) call.entry in
      let b = place_of e2.by e2 (decided during2) call2.entry in
      let d = law_of_decisions k min_load in
      let d2 = d log1 log2 s1 s2 during call.runs ∙ ap (λ l. log1 ++ l) a.2 in
      let d3 = d log2 log3 s2 s3 between run3 in
      let d4 = d log3 log4 s3 s4 during2 call2.runs ∙ ap (λ l. log3 ++ l) b.2 in
      let d5 = d log4 log5 s4 s5 after run5 in (
        (bindings (whole k i5.contents), i5.legal),
        record {
          before = log1 ++ a.0;
          between = a.1 ++ (decided between ++ b.0);
          after = b.1 ++ decided after;
          all = simp (d5, d4, d3, d2, append_assoc);
          first_begins = (a.0, refl);
          first_ends = (a.1, simp (d2, append_assoc));
          second_begins = (b.0, simp (d3, d2, append_assoc));
          second_ends = (b.1, simp (d4, d3, d2, append_assoc));
        },
      )

  -- one view was set, and has seen no less than before
  grow_set : (s s2 : Configuration V) (id : ℕ) (v x : View V) → get_elem? s.views id ≡ some v → s2.views ≡ set s.views id x → StartsWith x.seen v.seen → ViewsGrow s s2
  grow_set s s2 id v x there is more j u at = dite (ℕ_discrete j id)
      (λ e. let one : v ≡ u = some-injective v u (sym there ∙ (ap (get_elem? s.views) (sym e) ∙ at)) in
      (id, x, ap (λ l. get_elem? l id) is ∙ set_there s.views id v x there, subst (λ (y : View V). StartsWith x.seen y.seen) one more))
      (λ ne. (j, u, ap (λ l. get_elem? l j) is ∙ (set_else s.views id j x ne ∙ at), starts_itself u.seen))

  -- and another came to the views
  grow_split : (s s2 : Configuration V) (id : ℕ) (v x y : View V) → get_elem? s.views id ≡ some v → s2.views ≡ set s.views id x ++ y ∷ [] → StartsWith x.seen v.seen → ViewsGrow s s2
  grow_split s s2 id v x y there is more j u at =
      let z = grow_set s (record s { views = set s.views id x }) id v x there refl more j u at in
      (z.0, z.1, ap (λ l. get_elem? l z.0) is ∙ at_longer (set s.views id x) (y ∷ []) z.0 z.1 z.2, z.3)

  pub law_of_growing_views : LawOfGrowingViews V
  law_of_growing_views k min_load callers id (Take t) log s s2 not_joining law d = grow_set s s2 id d.0 _ d.2 (views_of s2 _ d.8) (seen_starts callers log d.0 (law.callers_known.knows id d.0 d.2))
  law_of_growing_views k min_load callers id (FindHeld t) log s s2 not_joining law d = grow_set s s2 id d.0 _ d.1 (views_of s2 _ d.6) (starts_itself d.0.seen)
  law_of_growing_views k min_load callers id (Give t g) log s s2 not_joining law d = grow_set s s2 id d.0 _ d.2 (views_of s2 _ d.5) (starts_itself d.0.seen)
  law_of_growing_views k min_load callers id (Decide t ks e) log s s2 not_joining law d = grow_set s s2 id d.0 _ d.2 (views_of s2 _ d.6) (starts_more log d.0.seen e (seen_starts callers log d.0 (law.callers_known.knows id d.0 d.2)))
  law_of_growing_views k min_load callers id (GiveRest t) log s s2 not_joining law d = grow_set s s2 id d.0 _ d.2 (views_of s2 _ d.4) (starts_itself d.0.seen)
  law_of_growing_views k min_load callers id (Renew t ks g) log s s2 not_joining law d = grow_set s s2 id d.0 _ d.2 (views_of s2 _ d.6) (starts_itself d.0.seen)
  law_of_growing_views k min_load callers id (Look t p) log s s2 not_joining law d = grow_set s s2 id d.0 _ d.1 (views_of s2 _ d.5) (seen_starts callers log d.0 (law.callers_known.knows id d.0 d.1))
  law_of_growing_views k min_load callers id Open log s s2 not_joining law d = grow_split s s2 id d.0 _ _ d.3 (views_of s2 _ d.5) (starts_itself d.0.seen)
  law_of_growing_views k min_load callers id Tell log s s2 not_joining law d = grow_split s s2 id d.0 _ _ d.1 (views_of s2 _ d.2) (starts_itself d.0.seen)
  law_of_growing_views k min_load callers id (Join other) log s s2 not_joining law d = absurd (not_joining tt)
