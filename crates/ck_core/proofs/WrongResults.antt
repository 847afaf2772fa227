-- No allowed step leaves what these steps would, and callers with one number can't begin.
use Rattle.std.proofs.Common.{◌≡◌, ℕ, ◌≤◌, inl, inr, List, [], ◌∷◌, map, sym, refl, ap, ◌∙◌, subst, ⊎_elim, arith, Option, Some}
use Rattle.std.proofs.lemmas.Option.{same_Some}
use mathlib.Core.Option.{some, some-injective}
use lib.ListN.{get_elem?}
use Rattle.ck_model.specs.declared.history.Entry.{Entry}
use Rattle.ck_model.specs.declared.history.Reason.{Reason}
use Rattle.ck_model.specs.declared.settings.Settings.{Settings}
use Rattle.ck_model.specs.declared.contents.Content.{Content}
use Rattle.ck_model.specs.Promise.{Name}
use Rattle.ck_model.specs.Numbered.{IsIn, numbers, Holds}
use Rattle.ck_model.specs.Contents.{Stripes}
use Rattle.ck_core.specs.declared.view.View.{View}
use Rattle.ck_core.specs.State.{Configuration}
use Rattle.ck_core.specs.Steps.{Opening, deciding}
use Rattle.ck_core.specs.Steps.Label.{Give, Decide, GiveRest, Look, Open}
use Rattle.ck_core.specs.Example.{two_stripes, insertion, empty_stripe, full_stripe, both, first, second, start, one_held, both_held, alone}
use Rattle.ck_core.specs.Refusals.{LeavesHome, LeavesView, one_number, one_kept}
use Rattle.ck_core.proofs.Answered.{decided as after_deciding}
use Rattle.ck_core.proofs.WrongSteps.{the_view}

-- the view that a step left is the one that is there
left : (s s2 : Configuration ℕ) (j : ℕ) (v w : View ℕ) → s2 ≡ s → get_elem? s.views j ≡ some v → get_elem? s2.views j ≡ some w → w ≡ v
left s s2 j v w e a b = some-injective w v (sym b ∙ (ap (λ (x : Configuration ℕ). get_elem? x.views j) e ∙ a))

-- what is held as stripe 0, alone or beside stripe 1
alone_held : (c : Content ℕ) → Holds ((0, empty_stripe) ∷ []) 0 c → c ≡ empty_stripe
alone_held c h = ⊎_elim (λ e. sym e.1) (λ z. absurd z) h

beside_held : (c : Content ℕ) → Holds (both full_stripe) 0 c → c ≡ full_stripe
beside_held c h = ⊎_elim (λ (e : (1 ≡ 0) × (empty_stripe ≡ c)). let one : ◌≡◌ {A = ℕ} 1 0 = e.0 in absurd (omega arith))
    (λ r. ⊎_elim (λ (e : (0 ≡ 0) × (full_stripe ≡ c)). sym e.1) (λ z. absurd z) r) h

pub give_other_content : (g : Option (Name × Reason)) → LeavesHome [] one_held 0 (Give 0 g) 0 empty_stripe
give_other_content g min_load s2 d =
    let same = the_view one_held.views 0 _ d.0 refl d.2 in
    ap (λ (x : Configuration ℕ). get_elem? x.homes 0) d.5 ∙ ap (λ (c : Content ℕ). some (Some c)) (alone_held d.1 (subst (λ (v : View ℕ). Holds v.held 0 d.1) same d.3))

pub give_rest_other_content : LeavesHome [] one_held 0 (GiveRest 0) 0 empty_stripe
give_rest_other_content min_load s2 d =
    let same = the_view one_held.views 0 _ d.0 refl d.2 in
    ap (λ (x : Configuration ℕ). get_elem? x.homes 0) d.4 ∙ ap (λ (c : Content ℕ). some (Some c)) (alone_held d.1 (subst (λ (v : View ℕ). Holds v.held 0 d.1) same d.3))

pub give_other_stripe : (g : Option (Name × Reason)) → LeavesHome (insertion ∷ []) both_held 1 (Give 0 g) 0 full_stripe
give_other_stripe g min_load s2 d =
    let same = the_view both_held.views 1 _ d.0 refl d.2 in
    ap (λ (x : Configuration ℕ). get_elem? x.homes 0) d.5 ∙ ap (λ (c : Content ℕ). some (Some c)) (beside_held d.1 (subst (λ (v : View ℕ). Holds v.held 0 d.1) same d.3))

pub give_rest_other_stripe : LeavesHome (insertion ∷ []) both_held 1 (GiveRest 0) 0 full_stripe
give_rest_other_stripe min_load s2 d =
    let same = the_view both_held.views 1 _ d.0 refl d.2 in
    ap (λ (x : Configuration ℕ). get_elem? x.homes 0) d.4 ∙ ap (λ (c : Content ℕ). some (Some c)) (beside_held d.1 (subst (λ (v : View ℕ). Holds v.held 0 d.1) same d.3))

one_of_two : (e a b : Entry ℕ) (more l : List (Entry ℕ)) → l ≡ e ∷ [] → l ≡ a ∷ b ∷ more → ⊥
one_of_two e a b more l h g = cc

two_of_three : (e a b : Entry ℕ) (more l : List (Entry ℕ)) → l ≡ insertion ∷ e ∷ [] → l ≡ insertion ∷ a ∷ b ∷ more → ⊥
two_of_three e a b more l h g = cc

pub decide_two_entries : (t : ℕ) (ks : Stripes ℕ) (e a b : Entry ℕ) (more : List (Entry ℕ)) → LeavesView (insertion ∷ []) both_held 1 (Decide t ks e) 1 (λ w. ¬ (w.mine ≡ a ∷ b ∷ more))
decide_two_entries t ks e a b more min_load s2 w d at two =
    let same = the_view both_held.views 1 _ d.0 refl d.2 in
    let after = left _ s2 1 (after_deciding both_held t ks (insertion ∷ []) e d.0) w d.6 refl at in
    one_of_two e a b more w.mine (ap (λ (v : View ℕ). v.mine) after ∙ ap (λ (v : View ℕ). (deciding v t ks (insertion ∷ []) e).mine) same) two

pub decide_two_seen : (t : ℕ) (ks : Stripes ℕ) (e a b : Entry ℕ) (more : List (Entry ℕ)) → LeavesView (insertion ∷ []) both_held 1 (Decide t ks e) 1 (λ w. ¬ (w.seen ≡ insertion ∷ a ∷ b ∷ more))
decide_two_seen t ks e a b more min_load s2 w d at two =
    let after = left _ s2 1 (after_deciding both_held t ks (insertion ∷ []) e d.0) w d.6 refl at in
    two_of_three e a b more w.seen (ap (λ (v : View ℕ). v.seen) after) two

pub one_number_twice : (set : Settings) (callers p : ℕ) → ¬ (Opening two_stripes set callers p one_number)
one_number_twice set callers p o =
    let numbers_same : ◌≡◌ {A = ℕ} 0 1 = same_Some 0 1 (ap (λ (v : View ℕ). v.by) (o.views 1 first refl).1) in
    omega arith

-- the first numbers of lists that are the same
same_first : (m : ℕ) (rest ls : List (ℕ × List (Entry ℕ))) → (1, []) ∷ rest ≡ (m, []) ∷ ls → m ≡ 1
same_first m rest ls e = firsts (ap (λ (l : List (ℕ × List (Entry ℕ))). numbers l) e)
  where
    firsts : 1 ∷ numbers rest ≡ m ∷ numbers ls → m ≡ 1
    firsts h = cc

kept : (ms : List ℕ) → ◌≡◌ {A = List (ℕ × List (Entry ℕ))} ((1, []) ∷ []) (map (λ (m : ℕ). (m, [])) ms) → IsIn 1 ms
kept [] e = absurd (cc)
kept (m ∷ ms) e = inl (same_first m [] _ e)

pub kept_number_twice : (set : Settings) (callers p : ℕ) → ¬ (Opening two_stripes set callers p one_kept)
kept_number_twice set callers p o =
    let keeping = o.views 0 _ refl in
    let having = o.views 1 second refl in
    let kept_by_first : ◌≡◌ {A = ℕ} (o.keeper 1) 0 = (keeping.3 1 (inr (kept keeping.0 (ap (λ (v : View ℕ). v.others) keeping.1)))).1 in
    let kept_by_second : ◌≡◌ {A = ℕ} (o.keeper 1) 1 = (having.3 1 (inl refl)).1 in
    omega arith

dealt : (m : ℕ) (rest : List (ℕ × List (Entry ℕ))) → (1, []) ∷ [] ≡ (m, []) ∷ rest → (m ≡ 1) × (rest ≡ [])
dealt m rest e = (same_first m [] rest e, cc)

pub open_other_number : LeavesView [] alone 0 Open 1 (λ w. w.by ≡ Some 1)
open_other_number min_load s2 w d at =
    let same = the_view alone.views 0 _ d.0 refl d.3 in
    let after = left _ s2 1 _ w d.5 refl at in
    ap (λ (v : View ℕ). v.by) after ∙ ap (λ (n : ℕ). Some n) (dealt d.1 d.2 (subst (λ (v : View ℕ). v.others ≡ (d.1, []) ∷ d.2) same d.4)).0

pub open_number_again : LeavesView [] alone 0 Open 0 (λ w. w.others ≡ [])
open_number_again min_load s2 w d at =
    let same = the_view alone.views 0 _ d.0 refl d.3 in
    let after = left _ s2 0 _ w d.5 refl at in
    ap (λ (v : View ℕ). v.others) after ∙ (dealt d.1 d.2 (subst (λ (v : View ℕ). v.others ≡ (d.1, []) ∷ d.2) same d.4)).1

pub look_told_falls : (t p : ℕ) → LeavesView [] start 0 (Look t p) 0 (λ w. first.told ≤ w.told)
look_told_falls t p min_load s2 w d at =
    let same = the_view start.views 0 _ d.0 refl d.1 in
    let after = left _ s2 0 _ w d.5 refl at in
    let told_as : w.told ≡ p = ap (λ (v : View ℕ). v.told) after in
    let least : 1 ≤ p = subst (λ (v : View ℕ). v.told ≤ p) same d.3 in
    omega arith
