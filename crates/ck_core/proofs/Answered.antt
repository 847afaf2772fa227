-- What a step leaves its caller with.
use Rattle.std.proofs.Common.{◌≡◌, ℕ, List, ◌++◌, [], ◌∷◌, set, sym, refl, ap, ◌∙◌, subst, ⊎_elim, arith, Some}
use mathlib.Core.Option.{some, some-injective}
use lib.ListN.{get_elem?}
use Rattle.std.specs.FinMap.{empty}
use Rattle.ck_model.specs.declared.history.Entry.{Entry}
use Rattle.ck_model.specs.Promise.{StartsWith}
use Rattle.ck_model.specs.Contents.{Stripes, bindings, whole}
use Rattle.ck_model.specs.Numbered.{IsIn, numbers}
use Rattle.ck_model.proofs.Histories.{starts_itself, leads_to, leads_snoc}
use Rattle.ck_model.proofs.Numbered.{in_held}
use Rattle.ck_core.proofs.Callers.{own_held, seen_starts}
use Rattle.ck_core.specs.declared.view.View.{View}
use Rattle.ck_core.specs.State.{Configuration, HasNumber, owned}
use Rattle.ck_core.specs.declared.trace.LockStep.TheVariants.{Decided}
use Rattle.ck_core.specs.Steps.{stepping, deciding, joining, spent}
use Rattle.ck_core.specs.Steps.Label.{Take, FindHeld, Give, Decide, GiveRest, Renew, Look, Open, Tell, Join}
use Rattle.ck_core.specs.Laws.{Unanswered, LawOfReplies, LawOfFindings, LawOfOneCaller, LawOfAnswers, LawOfFollowing, LawOfOtherSteps}
use Rattle.ck_core.proofs.Lists.{set_there, set_else, at_longer}
use Rattle.ck_core.proofs.Traces.{one_number}
use Rattle.ck_core.proofs.Keeps.{step_keeps}
use Rattle.ck_core.proofs.Shown.{shows, answered}

module _ {V : Type 0} where
  -- the view that was set
  set_view : (views after : List (View V)) (id : ℕ) (v x w : View V) → get_elem? views id ≡ some v → after ≡ set views id x → get_elem? after id ≡ some w → x ≡ w
  set_view views after id v x w at is there = some-injective x w (sym (set_there views id v x at) ∙ (ap (λ l. get_elem? l id) (sym is) ∙ there))

  -- the view that was set, where one came to the views
  split_view : (views after : List (View V)) (id : ℕ) (v x y w : View V) → get_elem? views id ≡ some v → after ≡ set views id x ++ y ∷ [] → get_elem? after id ≡ some w → x ≡ w
  split_view views after id v x y w at is there =
      some-injective x w (sym (at_longer (set views id x) (y ∷ []) id x (set_there views id v x at)) ∙ (ap (λ l. get_elem? l id) (sym is) ∙ there))

  -- what a decision leaves of its caller's view
  abbrev pub decided : Configuration V → ℕ → Stripes V → List (Entry V) → Entry V → View V → View V
  decided s t ks log e v = stepping s (Decided e ks) t (deciding v t ks log e)

  pub law_of_answers : LawOfAnswers V
  law_of_answers k min_load callers id t ks e log s s2 v w law d at there =
      let same : d.0 ≡ v = some-injective d.0 v (sym d.2 ∙ at) in
      let is : decided s t ks log e v ≡ w = ap (decided s t ks log e) (sym same) ∙ set_view s.views s2.views id d.0 (decided s t ks log e d.0) w d.2 (ap (λ (u : Configuration V). u.views) d.6) there in
      answered k callers log v w e (ap (λ (u : View V). u.by) (sym same) ∙ d.3) (shows k callers log s law id v at)
      (shows k callers (log ++ e ∷ []) s2 (step_keeps k min_load callers log id (Decide t ks e) s s2 law d) id w there)
      (ap (λ (u : View V). u.seen) (sym is)) (ap (λ (u : View V). u.mine) (sym is))

  pub law_of_following : LawOfFollowing V
  law_of_following k min_load callers id t ks e log s s2 v w law d at there which =
      let same : d.0 ≡ v = some-injective d.0 v (sym d.2 ∙ at) in
      let is : decided s t ks log e v ≡ w = ap (decided s t ks log e) (sym same) ∙ set_view s.views s2.views id d.0 (decided s t ks log e d.0) w d.2 (ap (λ (u : Configuration V). u.views) d.6) there in
      let shown = shows k callers log s law id v at in
      let all : v.seen ≡ log = ⊎_elim (λ one. shown.alone e.by (ap (λ (u : View V). u.by) (sym same) ∙ d.3) one) (λ held. shown.all_seen held) which in
      ap (λ (u : View V). u.seen) (sym is) ∙ ap (λ l. l ++ e ∷ []) (sym all)

  pub law_of_findings : LawOfFindings V
  law_of_findings k min_load callers id t log s s2 v law d at =
      let same : d.0 ≡ v = some-injective d.0 v (sym d.1 ∙ at) in
      let owner = law.places.owner t in
      let z = law.places.is_held t d.2 d.3 in
      let held : IsIn t (numbers z.0.held) = in_held z.0.held t (law.contents t) z.2 in
      let m = subst (λ (u : View V). HasNumber u) same d.5 in
      let n = law.holders owner z.0 z.1 t (law.contents t) z.2 in
      let mine = in_held (owned v) m.0 v.mine (own_held v m.0 m.1) in
      let its = in_held (owned z.0) n.0 z.0.mine (own_held z.0 n.0 n.1) in
      record {
        own = m.0;
        other = n.0;
        own_number = m.1;
        holder = (owner, z.0, z.1, held, n.1);
        apart = λ e.
            let there = one_number callers log s.views owner id z.0 v law.callers_known z.1 at m.0 (n.1 ∙ ap Some (sym e)) m.1 in
            let one : z.0 ≡ d.0 = some-injective z.0 d.0 (sym z.1 ∙ (ap (get_elem? s.views) there ∙ d.1)) in
            d.4 (subst (λ (u : View V). IsIn t (numbers u.held)) one held);
        within = ((law.callers_known.knows id v at).within m.0 mine, (law.callers_known.knows owner z.0 z.1).within n.0 its);
      }

  pub law_of_one_caller : LawOfOneCaller V
  law_of_one_caller k min_load id t log s s2 law d =
      let h = law_of_findings k min_load 1 id t log s s2 d.0 law d d.1 in
      let a = h.within.0 in
      let b = h.within.1 in
      h.apart (omega arith)

  pub law_of_replies : LawOfReplies V
  law_of_replies k min_load callers id t ks e log s s2 law d =
      let after = step_keeps k min_load callers log id (Decide t ks e) s s2 law d in
      let z = leads_to empty (bindings (whole k after.contents)) log (e ∷ []) after.legal in
      (z.0, z.2.0, z.1, z.2.1, leads_snoc empty z.0 z.2.0 log e z.1 z.2.1)

  -- a step by which nothing more was seen
  same_seen : (v u x w : View V) → u ≡ v → x ≡ w → x.seen ≡ u.seen → x.mine ≡ u.mine → Unanswered v w
  same_seen v u x w a b seen mine = record {
    seen = subst (λ l. StartsWith l v.seen) (ap (λ (y : View V). y.seen) (sym a) ∙ (sym seen ∙ ap (λ (y : View V). y.seen) b)) (starts_itself v.seen);
    mine = ap (λ (y : View V). y.mine) (sym b) ∙ (mine ∙ ap (λ (y : View V). y.mine) a);
  }

  -- a step by which the whole history was seen
  all_seen : (log : List (Entry V)) (v u x w : View V) → u ≡ v → x ≡ w → x.seen ≡ log → x.mine ≡ u.mine → StartsWith log v.seen → Unanswered v w
  all_seen log v u x w a b seen mine starts = record {
    seen = subst (λ l. StartsWith l v.seen) (sym seen ∙ ap (λ (y : View V). y.seen) b) starts;
    mine = ap (λ (y : View V). y.mine) (sym b) ∙ (mine ∙ ap (λ (y : View V). y.mine) a);
  }

  pub views_of : (s s2 : Configuration V) → s ≡ s2 → s.views ≡ s2.views
  views_of s s2 e = ap (λ (u : Configuration V). u.views) e

  pub law_of_other_steps : LawOfOtherSteps V
  law_of_other_steps k min_load callers id (Take t) log s s2 v w no_entry law d at there = all_seen log v d.0 _ w (some-injective d.0 v (sym d.2 ∙ at)) (set_view s.views s2.views id d.0 _ w d.2 (views_of s2 _ d.8) there) refl refl (seen_starts callers log v (law.callers_known.knows id v at))
  law_of_other_steps k min_load callers id (FindHeld t) log s s2 v w no_entry law d at there = same_seen v d.0 _ w (some-injective d.0 v (sym d.1 ∙ at)) (set_view s.views s2.views id d.0 _ w d.1 (views_of s2 _ d.6) there) refl refl
  law_of_other_steps k min_load callers id (Give t g) log s s2 v w no_entry law d at there = same_seen v d.0 _ w (some-injective d.0 v (sym d.2 ∙ at)) (set_view s.views s2.views id d.0 _ w d.2 (views_of s2 _ d.5) there) refl refl
  law_of_other_steps k min_load callers id (Decide t ks e) log s s2 v w no_entry law d at there = absurd (no_entry tt)
  law_of_other_steps k min_load callers id (GiveRest t) log s s2 v w no_entry law d at there = same_seen v d.0 _ w (some-injective d.0 v (sym d.2 ∙ at)) (set_view s.views s2.views id d.0 _ w d.2 (views_of s2 _ d.4) there) refl refl
  law_of_other_steps k min_load callers id (Renew t ks g) log s s2 v w no_entry law d at there = same_seen v d.0 _ w (some-injective d.0 v (sym d.2 ∙ at)) (set_view s.views s2.views id d.0 _ w d.2 (views_of s2 _ d.6) there) refl refl
  law_of_other_steps k min_load callers id (Look t p) log s s2 v w no_entry law d at there = all_seen log v d.0 _ w (some-injective d.0 v (sym d.1 ∙ at)) (set_view s.views s2.views id d.0 _ w d.1 (views_of s2 _ d.5) there) refl refl (seen_starts callers log v (law.callers_known.knows id v at))
  law_of_other_steps k min_load callers id Open log s s2 v w no_entry law d at there = same_seen v d.0 _ w (some-injective d.0 v (sym d.3 ∙ at)) (split_view s.views s2.views id d.0 _ _ w d.3 (views_of s2 _ d.5) there) refl refl
  law_of_other_steps k min_load callers id Tell log s s2 v w no_entry law d at there = same_seen v d.0 _ w (some-injective d.0 v (sym d.1 ∙ at)) (split_view s.views s2.views id d.0 _ _ w d.1 (views_of s2 _ d.2) there) refl refl
  law_of_other_steps k min_load callers id (Join other) log s s2 v w no_entry law d at there =
      let x : View V = joining d.0 d.1 in
      let here : get_elem? (set (set s.views id x) other spent) id ≡ some x = set_else (set s.views id x) other id spent (λ e. d.4 (sym e)) ∙ set_there s.views id d.0 x d.2 in
      same_seen v d.0 x w (some-injective d.0 v (sym d.2 ∙ at)) (some-injective x w (sym here ∙ (ap (λ (u : Configuration V). get_elem? u.views id) (sym d.6) ∙ there))) refl refl
