-- Each step leaves a legal trace, by which the holders of stripes are those that the places say.
use Rattle.std.proofs.Common.{◌≡◌, ◌≢◌, ◌⊎◌, ℕ, ◌<◌, List, [], ◌∷◌, ◌++◌, append_assoc, get_or, set, sym, refl, ap, ◌∙◌, subst, ⊎_elim, arith, get_or-set_same, get_or-set_other, Some, None}
use Rattle.std.specs.Prelude.{All}
use mathlib.Core.Option.{some, some-injective}
use mathlib.Core.Logic.{dite}
use native.Mathlib.Decide.{ℕ_discrete}
use lib.ListN.{get_elem?}
use Rattle.std.proofs.lemmas.List.Elements.{All-nil, All-cons, All-append}
use Rattle.std.proofs.lemmas.Option.{none-some}
use Rattle.ck_model.specs.declared.history.Entry.{Entry}
use Rattle.ck_model.specs.Numbered.{IsIn, numbers, Holds, without}
use Rattle.ck_model.specs.declared.contents.Content.{Content}
use Rattle.ck_model.specs.Contents.{Stripes}
use Rattle.ck_model.proofs.Numbered.{in_held, held_of_in, in_without}
use Rattle.ck_model.specs.Promise.{StartsWith}
use Rattle.ck_core.specs.declared.trace.LockStep.{LockStep}
use Rattle.ck_core.specs.declared.trace.LockStep.TheVariants.{Took, Missed}
use Rattle.ck_core.specs.declared.trace.LockEvent.{LockEvent}
use Rattle.ck_core.specs.declared.view.View.{View}
use Rattle.ck_core.specs.State.{by_of, Configuration, HasNumber, owned, Places, Callers, Watches, Traces}
use Rattle.ck_core.specs.Steps.{number_of, event, traced, stepping, taken, missed, seen_as, sent_home, split_as, joined, joining, spent}
use Rattle.ck_core.specs.Trace.{Fits, held_after, holder, steps_of}
use Rattle.ck_core.proofs.Lists.{each_set, each_snoc}
use Rattle.ck_core.proofs.Sees.{sees_all, sees_none, sees_as, sees_more, sees_both}
use Rattle.ck_core.proofs.Callers.{own_in}
use Rattle.ck_core.proofs.LegalTraces.{holder_here, holder_there, legal_more, taking_fits, missing_fits, Returns, steps_same, steps_more}

module _ {V : Type 0} where
  -- two views of one number are one
  pub one_number : (callers : ℕ) (log : List (Entry V)) (views : List (View V)) (i j : ℕ) (v w : View V) → Callers callers log views → get_elem? views i ≡ some v → get_elem? views j ≡ some w → (m : ℕ) → v.by ≡ Some m → w.by ≡ Some m → i ≡ j
  one_number callers log views i j v w cs at there m by same =
      sym (cs.keeps i v at m (own_in v m by)) ∙ cs.keeps j w there m (own_in w m same)

  module _ (n callers : ℕ) (log : List (Entry V)) (s : Configuration V) (whole : ℕ → Content V) (places : Places n s whole) (cs : Callers callers log s.views) (r : Traces n callers s) (id : ℕ) (v : View V) (at : get_elem? s.views id ≡ some v) where
    -- what each view has watched, after a step of this caller
    each_watches : (m : ℕ) → v.by ≡ Some m → (e : LockEvent V) → e.by ≡ m → (w : View V) → w.watched ≡ s.trace ++ e ∷ [] → w.by ≡ v.by → w.steps ≡ v.steps ++ e ∷ [] → w.heard_watched ≡ v.heard_watched
        → (j : ℕ) (u : View V) → get_elem? (set s.views id w) j ≡ some u → Watches (s.trace ++ e ∷ []) u
    each_watches m by e own w watched same steps heard =
        let mine = r.watched id v at in
        each_set (λ _ u. Watches (s.trace ++ e ∷ []) u) s.views id w
        (record {
          sees = sees_all by_of (λ x. IsIn x (numbers (owned w))) (s.trace ++ e ∷ []) w.watched watched;
          heard = (
            mine.heard.0 ++ (mine.sees.unseen ++ e ∷ []),
            watched ∙ (ap (λ l. l ++ e ∷ []) mine.sees.begins ∙ (append_assoc v.watched mine.sees.unseen (e ∷ []) ∙ (ap (λ l. l ++ (mine.sees.unseen ++ e ∷ [])) mine.heard.1
                ∙ (append_assoc v.heard_watched mine.heard.0 (mine.sees.unseen ++ e ∷ []) ∙ ap (λ l. l ++ (mine.heard.0 ++ (mine.sees.unseen ++ e ∷ []))) (sym heard))))),
          );
          own = λ x is.
              let me : x ≡ m = some_number x m (sym is ∙ (same ∙ by)) in
              let own_number : v.by ≡ Some x = by ∙ ap Some (sym me) in
              ap (steps_of x) watched
              ∙ (steps_more x s.trace v.watched mine.sees.unseen e mine.sees.begins (mine.sees.by_others x (own_in v x own_number)) (own ∙ sym me)
              ∙ ((λ i. mine.own x own_number i ++ e ∷ []) ∙ sym steps));
        })
        (λ j u other there.
        let its = r.watched j u there in
        record {
          sees = sees_more by_of (λ x. IsIn x (numbers (owned u))) s.trace u.watched its.sees e
              (λ x i is. other (sym (cs.keeps j u there x i) ∙ (ap cs.keeper (sym is ∙ own) ∙ cs.keeps id v at m (own_in v m by))));
          heard = its.heard;
          own = its.own;
        })
      where
        some_number : (a b : ℕ) → Some a ≡ Some b → a ≡ b
        some_number a b e = λ i. number_of (e i)

    module _ (m : ℕ) (by : v.by ≡ Some m) where
      own : number_of v.by ≡ m
      own = ap number_of by

      -- this caller's step is a caller's
      by_callers_on : (e : LockEvent V) → e.by ≡ m → All (λ (x : LockEvent V). x.by < callers) (s.trace ++ e ∷ [])
      by_callers_on e is =
          let within : m < callers = (cs.knows id v at).within m (own_in v m by) in
          let Below : LockEvent V → Type 0 = λ x. x.by < callers in
          All-append Below s.trace (e ∷ []) r.by_callers (All-cons Below e [] (subst (λ x. x < callers) (sym is) within) (All-nil Below))

      pub traces_take : (t : ℕ) (c : Content V) (l : List (Entry V)) → t < n → get_or s.words t 0 ≡ 0 → Traces n callers (taken s id v t c l)
      traces_take t c l inside free =
          let e : LockEvent V = event v.by Took t in
          let w : View V = stepping s Took t (record v { held = (t, c) ∷ v.held; seen = l }) in
          let now : get_or (set s.words t 1) t 0 ≡ 1 = get_or-set_same s.words t 1 0 (let z = places.words_sized in omega arith) in
          let apart : (q : ℕ) → get_or s.words q 0 ≡ 1 → t ≢ q = λ q one is. let z : get_or s.words q 0 ≡ 0 = ap (λ x. get_or s.words x 0) (sym is) ∙ free in omega arith in
          record {
            legal = legal_more s.trace e r.legal (taking_fits (number_of v.by) (holder s.trace t) (r.free t inside free));
            by_callers = by_callers_on e own;
            free = λ q k zero. dite (ℕ_discrete t q)
                (λ is. let z : get_or (set s.words t 1) q 0 ≡ 1 = ap (λ x. get_or (set s.words t 1) x 0) (sym is) ∙ now in absurd (omega arith))
                (λ ne. holder_there s.trace e q ne ∙ r.free q k (sym (get_or-set_other s.words t q 1 0 (λ is. ne (sym is))) ∙ zero));
            held = each_set (λ _ u. (q : ℕ) (d : Content V) → Holds u.held q d → holder (traced s v Took t) q ≡ u.by) s.views id w
                (λ q d h. ⊎_elim (λ (is : (t ≡ q) × (c ≡ d)). holder_here s.trace e q is.0 ∙ (ap Some own ∙ sym by))
                (λ x. holder_there s.trace e q (apart q (places.holds id v at q d x).1) ∙ r.held id v at q d x) h)
                (λ j u _ there q d h. holder_there s.trace e q (apart q (places.holds j u there q d h).1) ∙ r.held j u there q d h);
            watched = each_watches m by e own w refl refl refl refl;
          }

      pub traces_miss : (t : ℕ) → t < n → get_or s.words t 0 ≡ 1 → ¬ (IsIn t (numbers v.held)) → ((j : ℕ) (u : View V) → get_elem? s.views j ≡ some u → (q : ℕ) (d : Content V) → Holds u.held q d → HasNumber u) → Traces n callers (missed s id v t)
      traces_miss t inside one not_own holders =
          let e : LockEvent V = event v.by Missed t in
          let w : View V = stepping s Missed t v in
          let z = places.is_held t inside one in
          let its = holders (places.owner t) z.0 z.1 t (whole t) z.2 in
          let holds : holder s.trace t ≡ Some its.0 = r.held (places.owner t) z.0 z.1 t (whole t) z.2 ∙ its.1 in
          let still : (q : ℕ) → holder (traced s v Missed t) q ≡ holder s.trace q = λ q. dite (ℕ_discrete t q) (holder_here s.trace e q) (holder_there s.trace e q) in
          let another : its.0 ≢ number_of v.by = λ is.
          let there = one_number callers log s.views (places.owner t) id z.0 v cs z.1 at m (its.1 ∙ ap Some (is ∙ own)) by in
          let same : z.0 ≡ v = some-injective z.0 v (sym z.1 ∙ (ap (get_elem? s.views) there ∙ at)) in
          not_own (subst (λ (u : View V). IsIn t (numbers u.held)) same (in_held z.0.held t (whole t) z.2)) in
          record {
            legal = legal_more s.trace e r.legal (missing_fits (number_of v.by) (holder s.trace t) (λ none. none-some its.0 (sym none ∙ holds)) (λ own_one. another (ap number_of (sym holds ∙ own_one))));
            by_callers = by_callers_on e own;
            free = λ q k zero. still q ∙ r.free q k zero;
            held = each_set (λ _ u. (q : ℕ) (d : Content V) → Holds u.held q d → holder (traced s v Missed t) q ≡ u.by) s.views id w
                (λ q d h. still q ∙ r.held id v at q d h) (λ j u _ there q d h. still q ∙ r.held j u there q d h);
            watched = each_watches m by e own w refl refl refl refl;
          }

      -- a stripe that is held goes home, and the others that are held may have new contents
      pub traces_back : (step : LockStep V) → Returns m step → (ks : Stripes V) (t : ℕ) (c : Content V) (w : View V) → numbers ks ≡ numbers v.held → Holds ks t c → w.held ≡ without t ks → w.by ≡ v.by → w.steps ≡ v.steps → w.heard_watched ≡ v.heard_watched → Traces n callers (sent_home step s id t c w)
      traces_back step returns ks t c w same here is by_same steps heard =
          let e : LockEvent V = event w.by step t in
          let mine : (q : ℕ) → IsIn q (numbers ks) → (d : Content V) × Holds v.held q d = λ q i. held_of_in v.held q (subst (IsIn q) same i) in
          let old = mine t (in_held ks t c here) in
          let at_t = places.holds id v at t old.0 old.1 in
          let own_now : number_of w.by ≡ m = ap number_of by_same ∙ own in
          let zero_now : get_or (set s.words t 0) t 0 ≡ 0 = get_or-set_same s.words t 0 0 (let z = places.words_sized in let l = at_t.0 in omega arith) in
          record {
            legal = legal_more s.trace e r.legal (subst (λ n. Fits step n (holder s.trace t)) (sym own_now) (returns.fits (holder s.trace t) (r.held id v at t old.0 old.1 ∙ by)));
            by_callers = by_callers_on e own_now;
            free = λ q k zero. dite (ℕ_discrete t q) (λ it. holder_here s.trace e q it ∙ (ap (λ n. held_after step n (holder s.trace q)) own_now ∙ returns.lets_go (holder s.trace q)))
                (λ ne. holder_there s.trace e q ne ∙ r.free q k (sym (get_or-set_other s.words t q 0 0 (λ it. ne (sym it))) ∙ zero));
            held = each_set (λ _ u. (q : ℕ) (d : Content V) → Holds u.held q d → holder (traced s w step t) q ≡ u.by) s.views id (stepping s step t w)
                (λ q d h.
                let f = in_without t ks q d (subst (λ (hs : Stripes V). Holds hs q d) is h) in
                let g = mine q (in_held ks q d f.1) in
                holder_there s.trace e q (λ it. f.0 (sym it)) ∙ (r.held id v at q g.0 g.1 ∙ sym by_same))
                (λ j u other there q d h.
                let f = places.holds j u there q d h in
                holder_there s.trace e q (λ it. other (sym f.2 ∙ (ap places.owner (sym it) ∙ at_t.2))) ∙ r.held j u there q d h);
            watched = each_watches m by e own_now (stepping s step t w) refl by_same (ap (λ l. l ++ e ∷ []) steps) heard;
          }

    -- a view changed that holds what it held
    pub traces_keep : (w : View V) → w.held ≡ v.held → w.by ≡ v.by → Watches s.trace w → Traces n callers (seen_as s id w)
    traces_keep w held by watches = record {
      legal = r.legal;
      by_callers = r.by_callers;
      free = r.free;
      held = each_set (λ _ u. (q : ℕ) (d : Content V) → Holds u.held q d → holder s.trace q ≡ u.by) s.views id w
          (λ q d h. r.held id v at q d (subst (λ (hs : Stripes V). Holds hs q d) held h) ∙ sym by) (λ j u _ there. r.held j u there);
      watched = each_set (λ _ u. Watches s.trace u) s.views id w watches (λ j u _ there. r.watched j u there);
    }

    -- a new view holds nothing
    pub traces_split : (left right : View V) → left.held ≡ v.held → left.by ≡ v.by → right.held ≡ [] → Watches s.trace left → Watches s.trace right → Traces n callers (split_as s id left right)
    traces_split left right held by none of_left of_right =
        let kept = traces_keep left held by of_left in
        record {
          legal = r.legal;
          by_callers = r.by_callers;
          free = r.free;
          held = each_snoc (λ _ u. (q : ℕ) (d : Content V) → Holds u.held q d → holder s.trace q ≡ u.by) (set s.views id left) right kept.held (λ q d h. absurd (subst (λ (hs : Stripes V). Holds hs q d) none h));
          watched = each_snoc (λ _ u. Watches s.trace u) (set s.views id left) right kept.watched of_right;
        }

  -- a view with no number has nothing to have watched
  pub watches_nothing : (trace : List (LockEvent V)) (w : View V) → owned w ≡ [] → w.by ≡ None → w.watched ≡ [] → w.heard_watched ≡ [] → Watches trace w
  watches_nothing trace w none nobody nothing silent = record {
    sees = sees_none by_of (λ m. IsIn m (numbers (owned w))) trace w.watched trace (ap (λ l. l ++ trace) (sym nothing)) (λ m i. subst (λ (o : List (ℕ × List (Entry V))). IsIn m (numbers o)) none i);
    heard = ([], nothing ∙ ap (λ l. l ++ []) (sym silent));
    own = λ m e. absurd (none-some m (sym nobody ∙ e));
  }

  -- one that watched as much as another, has no number besides, and has its caller's steps
  pub watches_as : (trace : List (LockEvent V)) (v w : View V) → Watches trace v → w.watched ≡ v.watched → ((m : ℕ) → IsIn m (numbers (owned w)) → IsIn m (numbers (owned v))) → ((m : ℕ) → w.by ≡ Some m → steps_of m w.watched ≡ w.steps) → StartsWith w.watched w.heard_watched → Watches trace w
  watches_as trace v w h same fewer own heard = record {
    sees = sees_as by_of (λ m. IsIn m (numbers (owned v))) trace v.watched h.sees (λ m. IsIn m (numbers (owned w))) w.watched same fewer;
    heard = heard;
    own = own;
  }

  -- one that has watched all, else as another
  pub watches_all : (trace : List (LockEvent V)) (v w : View V) → Watches trace v → w.watched ≡ trace → w.by ≡ v.by → w.steps ≡ v.steps → w.heard_watched ≡ v.heard_watched → Watches trace w
  watches_all trace v w h all same steps heard = record {
    sees = sees_all by_of (λ m. IsIn m (numbers (owned w))) trace w.watched all;
    heard = (
      h.heard.0 ++ h.sees.unseen,
      all ∙ (h.sees.begins ∙ (ap (λ l. l ++ h.sees.unseen) h.heard.1 ∙ (append_assoc v.heard_watched h.heard.0 h.sees.unseen ∙ ap (λ l. l ++ (h.heard.0 ++ h.sees.unseen)) (sym heard)))),
    );
    own = λ m by. ap (steps_of m) (all ∙ h.sees.begins) ∙ (steps_same m v.watched h.sees.unseen (h.sees.by_others m (own_in v m (sym same ∙ by))) ∙ (h.own m (sym same ∙ by) ∙ sym steps));
  }

  -- a view that takes in what another watched, and its numbers
  pub watches_both : (trace : List (LockEvent V)) (v w : View V) → Watches trace v → Watches trace w → ((m : ℕ) → IsIn m (numbers (owned (joining v w))) → IsIn m (numbers (owned v)) ⊎ IsIn m (numbers (owned w))) → Watches trace (joining v w)
  watches_both trace v w h g of_both =
      let both = sees_both by_of (λ m. IsIn m (numbers (owned v))) trace v.watched h.sees (λ m. IsIn m (numbers (owned w))) (λ m. IsIn m (numbers (owned (joining v w)))) w.watched g.sees of_both in
      record {
        sees = both.0;
        heard = both.2;
        own = λ m by. ap (steps_of m) both.1.1 ∙ (steps_same m v.watched both.1.0 (both.1.2 m (own_in v m by)) ∙ h.own m by);
      }

  module _ (n callers : ℕ) (log : List (Entry V)) (s : Configuration V) (whole : ℕ → Content V) (places : Places n s whole) (cs : Callers callers log s.views) (r : Traces n callers s) (id : ℕ) (v : View V) (at : get_elem? s.views id ≡ some v) where
    -- a view takes in another, which is left with nothing
    pub traces_join : (other : ℕ) (w : View V) → get_elem? s.views other ≡ some w → ((m : ℕ) → IsIn m (numbers (owned (joining v w))) → IsIn m (numbers (owned v)) ⊎ IsIn m (numbers (owned w))) → Traces n callers (joined s id (joining v w) other)
    traces_join other w there of_both =
        let both : View V = joining v w in
        let kept = traces_keep n callers log s whole places cs r id v at both refl refl (watches_both s.trace v w (r.watched id v at) (r.watched other w there) of_both) in
        record {
          legal = r.legal;
          by_callers = r.by_callers;
          free = r.free;
          held = each_set (λ _ u. (q : ℕ) (d : Content V) → Holds u.held q d → holder s.trace q ≡ u.by) (set s.views id both) other spent (λ q d h. absurd h) (λ j u _ a. kept.held j u a);
          watched = each_set (λ _ u. Watches s.trace u) (set s.views id both) other spent (watches_nothing s.trace spent refl refl refl refl) (λ j u _ a. kept.watched j u a);
        }
