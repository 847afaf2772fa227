-- Each of the wrong steps breaks a condition of its row.
use Rattle.std.proofs.Common.{◌≡◌, ℕ, zero, suc, ◌<◌, ◌≤◌, inl, inr, List, [], ◌∷◌, sym, refl, ap, ◌∙◌, subst, ⊎_elim, arith, Option, Some, None}
use Rattle.std.proofs.lemmas.Option.{none-some, same_Some}
use mathlib.Core.Option.{some, some-injective, some-ne-none}
use lib.ListN.{get_elem?}
use Rattle.std.specs.FinMap.{get}
use Rattle.ck_model.specs.declared.history.Act.TheVariants.{Find, Insert}
use Rattle.ck_model.specs.declared.history.Call.TheVariants.{On}
use Rattle.ck_model.specs.declared.history.Reply.{Reply}
use Rattle.ck_model.specs.declared.history.Reply.TheVariants.{Was, New, Old}
use Rattle.ck_model.specs.declared.history.Reason.{Reason}
use Rattle.ck_model.specs.declared.history.Reason.TheVariants.{NoRoom, Full, LoadTooLow, Memory}
use Rattle.ck_model.specs.declared.history.Entry.{Entry}
use Rattle.ck_model.specs.Promise.{Name, Answers}
use Rattle.ck_model.specs.Numbered.{IsIn, numbers, Holds}
use Rattle.ck_model.specs.Arithmetic.{index_of, second_of, alternate_of, partial_of, spread_of}
use Rattle.ck_model.specs.Contents.{Stripes, bindings, IsStripeOf}
use Rattle.ck_model.specs.Sections.{Owns, Section, IdentitySection}
use Rattle.ck_core.specs.declared.view.View.{View}
use Rattle.ck_core.specs.State.{HasNumber}
use Rattle.ck_core.specs.Steps.{IsAbove, IsExcused, HasGrounds, message_of}
use Rattle.ck_core.specs.Steps.Label.{Take, FindHeld, Give, Decide, GiveRest, Renew, Look, Open, Tell, Join}
use Rattle.ck_core.specs.Example.{two_stripes, settings, zero_name, insertion, look_up, empty_stripe, full_stripe, both, first, start, one_held, decided, both_held}
use Rattle.ck_core.specs.Refusals.{Reaches, IsForbidden, one_told, told_and_held}
use Rattle.ck_core.proofs.ExampleRun.{empty_at, full_at}

-- the view that a step speaks of is the caller's
pub the_view : (vs : List (View ℕ)) (id : ℕ) (v w : View ℕ) → get_elem? vs id ≡ some v → get_elem? vs id ≡ some w → w ≡ v
the_view vs id v w a b = some-injective w v (sym b ∙ a)

pub take_below : IsForbidden (insertion ∷ []) decided 0 (Take 0)
take_below min_load s2 d =
    let same = the_view decided.views 0 _ d.0 refl d.2 in
    let below : 1 < 0 = subst (λ (v : View ℕ). IsAbove 0 (numbers v.held)) same d.5 1 (inl refl) in
    omega arith

pub take_held : IsForbidden [] one_held 1 (Take 0)
take_held min_load s2 d = let one : ◌≡◌ {A = ℕ} 1 0 = d.4 in omega arith

pub find_own : IsForbidden [] one_held 0 (FindHeld 0)
find_own min_load s2 d = let same = the_view one_held.views 0 _ d.0 refl d.1 in subst (λ (v : View ℕ). ¬ (IsIn 0 (numbers v.held))) same d.4 (inl refl)

pub to_one_told : Reaches ((0, Tell) ∷ []) [] one_told
to_one_told = (_, (first, refl, refl), (refl, refl))

pub to_told_and_held : Reaches ((0, Tell) ∷ (0, Take 0) ∷ []) [] told_and_held
to_told_and_held = (_, (first, refl, refl), (_, (first, empty_stripe, refl, omega arith, refl, (λ u h. absurd h), refl, (0, refl), refl), (refl, refl)))

-- what was told has no number
nameless : (v : View ℕ) → v ≡ message_of first → ¬ (HasNumber v)
nameless v e m = none-some m.0 (sym (ap (λ (u : View ℕ). u.by) e) ∙ m.1)

pub take_by_nobody : IsForbidden [] one_told 2 (Take 0)
take_by_nobody min_load s2 d = nameless d.0 (the_view one_told.views 2 _ d.0 refl d.2) d.7

pub find_by_nobody : IsForbidden [] told_and_held 2 (FindHeld 0)
find_by_nobody min_load s2 d = nameless d.0 (the_view told_and_held.views 2 _ d.0 refl d.1) d.5

pub give_not_held : (g : Option (Name × Reason)) → IsForbidden (insertion ∷ []) decided 0 (Give 0 g)
give_not_held g min_load s2 d =
    let same = the_view decided.views 0 _ d.0 refl d.2 in
    ⊎_elim (λ e. let one : ◌≡◌ {A = ℕ} 1 0 = e.0 in omega arith) (λ z. z) (subst (λ (v : View ℕ). Holds v.held 0 d.1) same d.3)

pub give_of_another : IsForbidden [] one_held 1 (GiveRest 0)
give_of_another min_load s2 d = let same = the_view one_held.views 1 _ d.0 refl d.2 in subst (λ (v : View ℕ). Holds v.held 0 d.1) same d.3

-- in the contents of both stripes the name is bound
bound : get (bindings (both full_stripe)) zero_name ≡ Some 5
bound = full_at zero_name

new_of_bound : (r : Reply ℕ) (o p : Option ℕ) → o ≡ Some 5 → r ≡ New → Answers (Insert 7) o r p → ⊥
new_of_bound r None p e f h = none-some 5 e
new_of_bound r (Some v) p e f h = apart h.0
  where
    apart : r ≡ Old → ⊥
    apart g = cc

pub wrong_reply : (t : ℕ) (ks : Stripes ℕ) → IsForbidden (insertion ∷ []) both_held 1 (Decide t ks (record { by = 1; call = On zero_name (Insert 7); reply = New }))
wrong_reply t ks min_load s2 d =
    let same = the_view both_held.views 1 _ d.0 refl d.2 in
    let sec = subst (λ (v : View ℕ). Section two_stripes v.held (On zero_name (Insert 7)) New ks) same d.5 in
    new_of_bound New (get (bindings (both full_stripe)) zero_name) (get (bindings ks) zero_name) bound refl sec.step.0

none_of_bound : (r : Reply ℕ) (o p : Option ℕ) → o ≡ Some 5 → r ≡ Was None → Answers Find o r p → ⊥
none_of_bound r None p e f h = none-some 5 e
none_of_bound r (Some v) p e f h = apart h.0
  where
    apart : r ≡ Was (Some v) → ⊥
    apart g = cc

pub wrong_value : (t : ℕ) (ks : Stripes ℕ) → IsForbidden (insertion ∷ []) both_held 1 (Decide t ks (record { by = 1; call = On zero_name Find; reply = Was None }))
wrong_value t ks min_load s2 d =
    let same = the_view both_held.views 1 _ d.0 refl d.2 in
    let sec = subst (λ (v : View ℕ). Section two_stripes v.held (On zero_name Find) (Was None) ks) same d.5 in
    none_of_bound (Was None) (get (bindings (both full_stripe)) zero_name) (get (bindings ks) zero_name) bound refl sec.step.0

one_is_of_zero : IsStripeOf two_stripes zero_name 1
unfolding second_of index_of alternate_of partial_of spread_of
one_is_of_zero = inr refl

pub without_all : (t : ℕ) (ks : Stripes ℕ) → IsForbidden [] one_held 0 (Decide t ks insertion)
without_all t ks min_load s2 d =
    let same = the_view one_held.views 0 _ d.0 refl d.2 in
    let owns = subst (λ (v : View ℕ). Owns two_stripes v.held zero_name) same d.5.owns in
    ⊎_elim (λ e. let zero_one : ◌≡◌ {A = ℕ} 0 1 = e in omega arith) (λ z. z) (owns 1 one_is_of_zero)

pub for_another : (t : ℕ) (ks : Stripes ℕ) → IsForbidden (insertion ∷ []) both_held 0 (Decide t ks look_up)
for_another t ks min_load s2 d =
    let same = the_view both_held.views 0 _ d.0 refl d.2 in
    let numbers_same : ◌≡◌ {A = ℕ} 0 1 = same_Some 0 1 (subst (λ (v : View ℕ). v.by ≡ Some 1) same d.3) in
    omega arith

pub undealt_number : (id t : ℕ) (ks : Stripes ℕ) (e : Entry ℕ) → settings.callers ≤ e.by → IsForbidden (insertion ∷ []) both_held id (Decide t ks e)
undealt_number zero t ks e above min_load s2 d =
    let same = the_view both_held.views 0 _ d.0 refl d.2 in
    let number : 0 ≡ e.by = same_Some 0 e.by (subst (λ (v : View ℕ). v.by ≡ Some e.by) same d.3) in
    omega arith
undealt_number (suc zero) t ks e above min_load s2 d =
    let same = the_view both_held.views 1 _ d.0 refl d.2 in
    let number : 1 ≡ e.by = same_Some 1 e.by (subst (λ (v : View ℕ). v.by ≡ Some e.by) same d.3) in
    omega arith
undealt_number (suc (suc id)) t ks e above min_load s2 d = some-ne-none d.0 (sym d.2)

pub lost_entry : (t : ℕ) (g : Option (Name × Reason)) → IsForbidden (insertion ∷ []) both_held 1 (Renew t (both empty_stripe) g)
lost_entry t g min_load s2 d =
    let same = the_view both_held.views 1 _ d.0 refl d.2 in
    let sec = subst (λ (v : View ℕ). IdentitySection two_stripes v.held (both empty_stripe)) same d.4 in
    none-some 5 (sym (empty_at zero_name) ∙ (ap (λ m. get m zero_name) sec.same_bindings ∙ bound))

bound_name : (min_load : ℕ) (why : Reason) → ¬ (IsExcused two_stripes min_load (both full_stripe) (Some (zero_name, why)))
bound_name min_load NoRoom h = none-some 5 (sym h.1.unbound ∙ bound)
bound_name min_load Full h = none-some 5 (sym h.0.unbound ∙ bound)
bound_name min_load LoadTooLow h = none-some 5 (sym h.0.unbound ∙ bound)
bound_name min_load Memory h = none-some 5 (sym h.0.unbound ∙ bound)

no_grounds_of_bound : (min_load : ℕ) (ks : Stripes ℕ) (why : Reason) → get (bindings ks) zero_name ≡ Some 5 → ¬ (HasGrounds two_stripes min_load ks (Some (zero_name, why)))
no_grounds_of_bound min_load ks NoRoom e h = h
no_grounds_of_bound min_load ks Full e h = none-some 5 (sym h.0.unbound ∙ e)
no_grounds_of_bound min_load ks LoadTooLow e h = none-some 5 (sym h.0.unbound ∙ e)
no_grounds_of_bound min_load ks Memory e h = none-some 5 (sym h.0.unbound ∙ e)

pub no_grounds : (t : ℕ) (why : Reason) → IsForbidden (insertion ∷ []) both_held 1 (Give t (Some (zero_name, why)))
no_grounds t why min_load s2 d =
    let same = the_view both_held.views 1 _ d.0 refl d.2 in
    bound_name min_load why (subst (λ (v : View ℕ). IsExcused two_stripes min_load v.held (Some (zero_name, why))) same d.4)

pub renew_no_grounds : (t : ℕ) (ks : Stripes ℕ) (why : Reason) → IsForbidden (insertion ∷ []) both_held 1 (Renew t ks (Some (zero_name, why)))
renew_no_grounds t ks why min_load s2 d =
    let same = the_view both_held.views 1 _ d.0 refl d.2 in
    let sec = subst (λ (v : View ℕ). IdentitySection two_stripes v.held ks) same d.4 in
    no_grounds_of_bound min_load ks why (ap (λ m. get m zero_name) sec.same_bindings ∙ bound) d.5

pub told_above : (t p : ℕ) → 1 < p → IsForbidden [] start 0 (Look t p)
told_above t p above min_load s2 d = let most : p ≤ 1 = d.4 0 empty_stripe (inl refl) in omega arith

no_first : {A : Type 0} (x : A) (xs : List A) → [] ≡ x ∷ xs → ⊥
no_first x xs e = cc

pub no_number_left : IsForbidden [] start 0 Open
no_number_left min_load s2 d = let same = the_view start.views 0 _ d.0 refl d.3 in no_first (d.1, []) d.2 (subst (λ (v : View ℕ). v.others ≡ (d.1, []) ∷ d.2) same d.4)

pub join_a_holder : IsForbidden [] one_held 1 (Join 0)
join_a_holder min_load s2 d = let same = the_view one_held.views 0 _ d.1 refl d.3 in no_first (0, empty_stripe) [] (sym (subst (λ (v : View ℕ). v.held ≡ []) same d.5))

pub join_itself : IsForbidden [] start 0 (Join 0)
join_itself min_load s2 d = d.4 refl
