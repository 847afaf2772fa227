-- Each step leaves each stripe in its place or with one holder.
use Rattle.std.proofs.Common.{◌≡◌, ℕ, ◌<◌, ◌≢◌, inl, inr, cond, eqb, List, [], ◌∷◌, get_or, set, sym, refl, ap, ◌∙◌, subst, ⊎_elim, arith, length-set, get_or-set_same, get_or-set_other, Some, None}
use mathlib.Core.Option.{some, some-injective}
use mathlib.Core.Logic.{dite}
use native.Mathlib.Decide.{ℕ_discrete}
use lib.ListN.{get_elem?}
use Rattle.ck_core.specs.declared.view.View.{View}
use Rattle.ck_model.specs.Numbered.{IsIn, AreDistinct, numbers, Holds, without}
use Rattle.ck_model.specs.declared.contents.Content.{Content}
use Rattle.ck_model.specs.Contents.{Stripes}
use Rattle.ck_core.specs.State.{Configuration, Places}
use Rattle.ck_core.specs.declared.trace.LockStep.{LockStep}
use Rattle.ck_core.specs.declared.trace.LockEvent.{LockEvent}
use Rattle.ck_core.specs.Steps.{stepping, sent_home, split_as}
use Rattle.ck_core.proofs.Lists.{set_here, set_else, set_there, each_set, each_snoc, at_longer}
use Rattle.ck_model.proofs.Numbered.{if_same, if_else, in_held, held_of_in, in_without, kept_without, distinct_without}

module _ {V : Type 0} where
  -- the owner of a stripe, after one view changed
  still_owned : (P Q : Stripes V → Type 0) (views : List (View V)) (id : ℕ) (v w : View V) → get_elem? views id ≡ some v → (o : ℕ) → (P v.held → Q w.held) → (o ≢ id → (u : View V) → get_elem? views o ≡ some u → P u.held → Q u.held)
      → (u : View V) × (get_elem? views o ≡ some u) × P u.held → (u : View V) × (get_elem? (set views id w) o ≡ some u) × Q u.held
  still_owned P Q views id v w at o mine others h = dite (ℕ_discrete o id)
      (λ e. let same : h.0 ≡ v = some-injective h.0 v (sym h.1 ∙ (ap (get_elem? views) e ∙ at)) in
      (w, ap (get_elem? (set views id w)) e ∙ set_there views id v w at, mine (subst (λ (u : View V). P u.held) same h.2)))
      (λ other. (h.0, set_else views id o w other ∙ h.1, others other h.0 h.1 h.2))

  module _ (n : ℕ) (s : Configuration V) (whole : ℕ → Content V) (r : Places n s whole) (id : ℕ) (v : View V) (at : get_elem? s.views id ≡ some v) where
    pub places_keep : (trace : List (LockEvent V)) (w : View V) → w.held ≡ v.held → Places n (record s { views = set s.views id w; trace = trace }) whole
    places_keep trace w same = record {
      owner = r.owner;
      words_sized = r.words_sized;
      homes_sized = r.homes_sized;
      is_bit = r.is_bit;
      at_home = r.at_home;
      is_held = λ t l one. let P : Stripes V → Type 0 = λ hs. Holds hs t (whole t) in still_owned P P s.views id v w at (r.owner t) (subst P (sym same)) (λ _ u _ h. h) (r.is_held t l one);
      is_out = r.is_out;
      holds = each_set (λ j u. (t : ℕ) (c : Content V) → Holds u.held t c → (t < n) × (get_or s.words t 0 ≡ 1) × (r.owner t ≡ j) × (whole t ≡ c)) s.views id w
          (λ t c h. r.holds id v at t c (subst (λ (hs : Stripes V). Holds hs t c) same h)) (λ j u _ e. r.holds j u e);
      distinct = each_set (λ j u. AreDistinct (numbers u.held)) s.views id w (subst (λ (hs : Stripes V). AreDistinct (numbers hs)) (sym same) (r.distinct id v at)) (λ j u _ e. r.distinct j u e);
    }

    -- a stripe that is at home is taken
    pub places_take : (t : ℕ) (trace : List (LockEvent V)) (w : View V) → t < n → get_or s.words t 0 ≡ 0 → w.held ≡ (t, whole t) ∷ v.held → Places n (record { words = set s.words t 1; homes = set s.homes t None; views = set s.views id w; trace = trace }) whole
    places_take t trace w l free is =
        let words = s.words in
        let words_sized = r.words_sized in
        let now : get_or (set words t 1) t 0 ≡ 1 = get_or-set_same words t 1 0 (omega arith) in
        let apart : (q : ℕ) → get_or words q 0 ≡ 1 → q ≢ t = λ q one e. let z : get_or words q 0 ≡ 0 = ap (λ x. get_or words x 0) e ∙ free in omega arith in
        let owns : (q : ℕ) → q ≢ t → cond (eqb q t) id (r.owner q) ≡ r.owner q = λ q ne. if_else q t id (r.owner q) ne in
        record {
          owner = λ q. cond (eqb q t) id (r.owner q);
          words_sized = length-set words t 1 ∙ words_sized;
          homes_sized = length-set s.homes t None ∙ r.homes_sized;
          is_bit = λ q k. dite (ℕ_discrete q t) (λ e. let z : get_or (set words t 1) q 0 ≡ 1 = ap (λ x. get_or (set words t 1) x 0) e ∙ now in omega arith)
              (λ ne. let z = get_or-set_other words t q 1 0 ne in let b = r.is_bit q k in omega arith);
          at_home = λ q k zero_there. dite (ℕ_discrete q t) (λ e. let z : get_or (set words t 1) q 0 ≡ 1 = ap (λ x. get_or (set words t 1) x 0) e ∙ now in absurd (omega arith))
              (λ ne. set_else s.homes t q None ne ∙ r.at_home q k (sym (get_or-set_other words t q 1 0 ne) ∙ zero_there));
          is_held = λ q k one. dite (ℕ_discrete q t)
              (λ e. (w, ap (get_elem? (set s.views id w)) (if_same q t id (r.owner q) e) ∙ set_there s.views id v w at, subst (λ (hs : Stripes V). Holds hs q (whole q)) (sym is) (inl (sym e, ap whole (sym e)))))
              (λ ne. let P : Stripes V → Type 0 = λ hs. Holds hs q (whole q) in let old = r.is_held q k (sym (get_or-set_other words t q 1 0 ne) ∙ one) in
              subst (λ o. (u : View V) × (get_elem? (set s.views id w) o ≡ some u) × P u.held) (sym (owns q ne)) (still_owned P P s.views id v w at (r.owner q) (λ h. subst P (sym is) (inr h)) (λ _ u _ h. h) old));
          is_out = λ q k one. dite (ℕ_discrete q t) (λ e. ap (get_elem? (set s.homes t None)) e ∙ set_here s.homes t None (let z = r.homes_sized in omega arith))
              (λ ne. set_else s.homes t q None ne ∙ r.is_out q k (sym (get_or-set_other words t q 1 0 ne) ∙ one));
          holds = each_set (λ j u. (q : ℕ) (c : Content V) → Holds u.held q c → (q < n) × (get_or (set words t 1) q 0 ≡ 1) × (cond (eqb q t) id (r.owner q) ≡ j) × (whole q ≡ c)) s.views id w
              (λ q c h. ⊎_elim
              (λ (e : (t ≡ q) × (whole t ≡ c)). (subst (λ x. x < n) e.0 l, ap (λ x. get_or (set words t 1) x 0) (sym e.0) ∙ now, if_same q t id (r.owner q) (sym e.0), ap whole (sym e.0) ∙ e.1))
              (λ x. let f = r.holds id v at q c x in let ne = apart q f.1 in (f.0, get_or-set_other words t q 1 0 ne ∙ f.1, owns q ne ∙ f.2, f.3))
              (subst (λ (hs : Stripes V). Holds hs q c) is h))
              (λ j u _ e q c h. let f = r.holds j u e q c h in let ne = apart q f.1 in (f.0, get_or-set_other words t q 1 0 ne ∙ f.1, owns q ne ∙ f.2, f.3));
          distinct = each_set (λ j u. AreDistinct (numbers u.held)) s.views id w
              (subst (λ (hs : Stripes V). AreDistinct (numbers hs)) (sym is)
              ((λ i. let d = held_of_in v.held t i in apart t (r.holds id v at t d.0 d.1).1 refl), r.distinct id v at))
              (λ j u _ e. r.distinct j u e);
        }

    -- a stripe that is held goes home, and the others that are held have new contents
    pub places_back : (step : LockStep V) (ks : Stripes V) (t : ℕ) (c : Content V) (w : View V) (whole2 : ℕ → Content V) → numbers ks ≡ numbers v.held → Holds ks t c → w.held ≡ without t ks
        → ((q : ℕ) → ¬ (IsIn q (numbers ks)) → whole2 q ≡ whole q) → ((q : ℕ) (d : Content V) → Holds ks q d → whole2 q ≡ d)
        → Places n (sent_home step s id t c w) whole2
    places_back step ks t c w whole2 same here is miss hit =
        let now : View V = stepping s step t w in
        let words = s.words in
        let words_sized = r.words_sized in
        let homes_sized = r.homes_sized in
        let mine : (q : ℕ) → IsIn q (numbers ks) → (q < n) × (get_or words q 0 ≡ 1) × (r.owner q ≡ id) = λ q i. let d = held_of_in v.held q (subst (IsIn q) same i) in let f = r.holds id v at q d.0 d.1 in (f.0, f.1, f.2) in
        let t_mine = mine t (in_held ks t c here) in
        let l : t < n = t_mine.0 in
        let zero_now : get_or (set words t 0) t 0 ≡ 0 = get_or-set_same words t 0 0 (omega arith) in
        let not_mine : (q : ℕ) → r.owner q ≢ id → whole2 q ≡ whole q = λ q ne. miss q (λ i. ne (mine q i).2) in
        record {
          owner = r.owner;
          words_sized = length-set words t 0 ∙ words_sized;
          homes_sized = length-set s.homes t (Some c) ∙ homes_sized;
          is_bit = λ q k. dite (ℕ_discrete q t) (λ e. let z : get_or (set words t 0) q 0 ≡ 0 = ap (λ x. get_or (set words t 0) x 0) e ∙ zero_now in omega arith)
              (λ ne. let z = get_or-set_other words t q 0 0 ne in let b = r.is_bit q k in omega arith);
          at_home = λ q k zero_there. dite (ℕ_discrete q t)
              (λ e. ap (get_elem? (set s.homes t (Some c))) e ∙ (set_here s.homes t (Some c) (omega arith) ∙ ap (λ x. some (Some x)) (sym (hit t c here) ∙ ap whole2 (sym e))))
              (λ ne. let z : get_or words q 0 ≡ 0 = sym (get_or-set_other words t q 0 0 ne) ∙ zero_there in
              set_else s.homes t q (Some c) ne ∙ (r.at_home q k z ∙ ap (λ x. some (Some x)) (sym (miss q (λ i. let one = (mine q i).1 in omega arith)))));
          is_held = λ q k one. dite (ℕ_discrete q t)
              (λ e. let z : get_or (set words t 0) q 0 ≡ 0 = ap (λ x. get_or (set words t 0) x 0) e ∙ zero_now in absurd (omega arith))
              (λ ne. let before = r.is_held q k (sym (get_or-set_other words t q 0 0 ne) ∙ one) in
              still_owned (λ hs. Holds hs q (whole q)) (λ hs. Holds hs q (whole2 q)) s.views id v now at (r.owner q)
              (λ h. let d = held_of_in ks q (subst (IsIn q) (sym same) (in_held v.held q (whole q) h)) in
              subst (λ (hs : Stripes V). Holds hs q (whole2 q)) (sym is) (subst (λ (x : Content V). Holds (without t ks) q x) (sym (hit q d.0 d.1)) (kept_without t ks q d.0 ne d.1)))
              (λ other u _ h. subst (λ (x : Content V). Holds u.held q x) (sym (not_mine q other)) h) before);
          is_out = λ q k one. dite (ℕ_discrete q t) (λ e. let z : get_or (set words t 0) q 0 ≡ 0 = ap (λ x. get_or (set words t 0) x 0) e ∙ zero_now in absurd (omega arith))
              (λ ne. set_else s.homes t q (Some c) ne ∙ r.is_out q k (sym (get_or-set_other words t q 0 0 ne) ∙ one));
          holds = each_set (λ j u. (q : ℕ) (d : Content V) → Holds u.held q d → (q < n) × (get_or (set words t 0) q 0 ≡ 1) × (r.owner q ≡ j) × (whole2 q ≡ d)) s.views id now
              (λ q d h. let f = in_without t ks q d (subst (λ (hs : Stripes V). Holds hs q d) is h) in let g = mine q (in_held ks q d f.1) in (g.0, get_or-set_other words t q 0 0 f.0 ∙ g.1, g.2, hit q d f.1))
              (λ j u other e q d h. let f = r.holds j u e q d h in
              let ne : q ≢ t = λ e2. other (sym f.2 ∙ (ap r.owner e2 ∙ t_mine.2)) in
              (f.0, get_or-set_other words t q 0 0 ne ∙ f.1, f.2, not_mine q (λ e2. other (sym f.2 ∙ e2)) ∙ f.3));
          distinct = each_set (λ j u. AreDistinct (numbers u.held)) s.views id now
              (subst (λ (hs : Stripes V). AreDistinct (numbers hs)) (sym is) (distinct_without t ks (subst AreDistinct (sym same) (r.distinct id v at))))
              (λ j u _ e. r.distinct j u e);
        }

    -- a new view holds nothing
    pub places_split : (left right : View V) → left.held ≡ v.held → right.held ≡ [] → Places n (split_as s id left right) whole
    places_split left right same none =
        let p = places_keep s.trace left same in
        record {
          owner = p.owner;
          words_sized = p.words_sized;
          homes_sized = p.homes_sized;
          is_bit = p.is_bit;
          at_home = p.at_home;
          is_held = λ t l one. let z = p.is_held t l one in (z.0, at_longer (set s.views id left) (right ∷ []) (p.owner t) z.0 z.1, z.2);
          is_out = p.is_out;
          holds = each_snoc (λ j u. (t : ℕ) (c : Content V) → Holds u.held t c → (t < n) × (get_or s.words t 0 ≡ 1) × (p.owner t ≡ j) × (whole t ≡ c)) (set s.views id left) right p.holds
              (λ t c h. absurd (subst (λ (hs : Stripes V). Holds hs t c) none h));
          distinct = each_snoc (λ j u. AreDistinct (numbers u.held)) (set s.views id left) right p.distinct (subst (λ (hs : Stripes V). AreDistinct (numbers hs)) (sym none) tt);
        }
