-- The run in which a caller begins and meets another is one that the steps allow.
use Rattle.std.proofs.Common.{◌≡◌, ℕ, zero, suc, ◌<◌, ◌≤◌, inl, List, [], ◌∷◌, sym, refl, ap, ◌∙◌, subst, ⊎_elim, arith, Some}
use mathlib.Core.Option.{some, some-injective, some-ne-none}
use Rattle.std.proofs.lemmas.Option.{same_Some}
use lib.ListN.{get_elem?}
use Rattle.ck_model.specs.declared.contents.Content.{Content}
use Rattle.ck_model.specs.Numbered.{IsIn, AreDistinct, Holds}
use Rattle.ck_model.specs.Contents.{Stripes, IsSound, Lawful}
use Rattle.ck_model.specs.Sections.{IdentitySection}
use Rattle.ck_core.specs.declared.view.View.{View}
use Rattle.ck_core.specs.State.{Configuration, IsPart}
use Rattle.ck_core.specs.Steps.{initial_view, message_of, spent}
use Rattle.ck_core.specs.Example.{two_stripes, settings, empty_stripe, first, second, watching, short_trace, alone, MeetingOpens, MeetingRuns}
use Rattle.ck_core.proofs.ExampleRun.{opens, empty_sound}

pub meeting_opens : MeetingOpens
meeting_opens = record {
  words = refl;
  no_step = refl;
  homes_sized = refl;
  homes = opens.homes;
  lawful = opens.lawful;
  empty_whole = opens.empty_whole;
  keeper = λ _. 0;
  views = views;
}
  where
    below : (m : ℕ) → IsIn m (0 ∷ 1 ∷ []) → (m < 2) × (◌≡◌ {A = ℕ} 0 0)
    below m h = (⊎_elim (λ e. omega arith) (λ r. ⊎_elim (λ e. omega arith) (λ z. absurd z) r) h, refl)

    apart : AreDistinct {A = ℕ} (0 ∷ 1 ∷ [])
    apart = ((λ h. ⊎_elim (λ e. omega arith) (λ z. z) h), ((λ h. h), tt))

    views : (j : ℕ) (v : View ℕ) → get_elem? alone.views j ≡ some v → (ms : List ℕ) × (v ≡ initial_view settings j 1 ms) × AreDistinct (j ∷ ms) × ((m : ℕ) → IsIn m (j ∷ ms) → (m < 2) × (0 ≡ j))
    views zero v e = (1 ∷ [], sym (some-injective (initial_view settings 0 1 (1 ∷ [])) v e), apart, below)
    views (suc j) v e = absurd (some-ne-none v (sym e))

-- stripe 0 alone
abbrev one : Stripes ℕ
one = (0, empty_stripe) ∷ []

is_empty : (t : ℕ) (c : Content ℕ) → Holds one t c → (0 ≡ t) × (empty_stripe ≡ c)
is_empty t c h = ⊎_elim (λ e. e) (λ z. absurd z) h

one_lawful : Lawful two_stripes one
one_lawful = record {
  distinct = ((λ h. h), tt);
  sound = λ t c h. let e = is_empty t c h in subst (λ (x : ℕ × Content ℕ). IsSound two_stripes x.0 x.1) (λ i. (e.0 i, e.1 i)) (empty_sound 0 (omega arith));
  once = λ t u c d q v w h g _ _. sym (is_empty t c h).0 ∙ (is_empty u d g).0;
  one_power = λ t u c d h g. powers c d (is_empty t c h).1 (is_empty u d g).1;
}
  where
    powers : (c d : Content ℕ) → empty_stripe ≡ c → empty_stripe ≡ d → c.power ≡ d.power
    powers c d e f = ap (λ (x : Content ℕ). x.power) (sym e ∙ f)

unchanged : IdentitySection two_stripes one one
unchanged = record {
  renewed = record { same = refl; lawful = one_lawful; power = inl (λ t u c d h g. sym (one_lawful.one_power t u c d h g)) };
  same_bindings = refl;
}

-- the state in which the other caller looks
abbrev joined_now : Configuration ℕ
joined_now = record { words = 0 ∷ 0 ∷ []; homes = Some empty_stripe ∷ Some empty_stripe ∷ []; views = watching short_trace first ∷ record second { heard_told = 1; watched = short_trace; heard_watched = short_trace } ∷ spent ∷ []; trace = short_trace }

no_less : (c : Content ℕ) → empty_stripe ≡ c → 1 ≤ c.power
no_less c e = let f = ap (λ (x : Content ℕ). x.power) e in omega arith

home_power : (u : ℕ) (c : Content ℕ) → get_elem? joined_now.homes u ≡ some (Some c) → 1 ≤ c.power
home_power zero c e = no_less c (same_Some empty_stripe c (some-injective (Some empty_stripe) (Some c) e))
home_power (suc zero) c e = no_less c (same_Some empty_stripe c (some-injective (Some empty_stripe) (Some c) e))
home_power (suc (suc u)) c e = absurd (some-ne-none (Some c) (sym e))

-- a view that holds nothing is no holder
holds_none : (u : ℕ) (c : Content ℕ) (v w : View ℕ) → v ≡ w → v.held ≡ [] → ¬ (Holds w.held u c)
holds_none u c v w e none h = subst (λ hs. Holds hs u c) none (subst (λ (x : View ℕ). Holds x.held u c) (sym e) h)

no_holder : (u : ℕ) (c : Content ℕ) (j : ℕ) (v : View ℕ) → get_elem? joined_now.views j ≡ some v → ¬ (Holds v.held u c)
no_holder u c zero v e = holds_none u c (watching short_trace first) v (some-injective (watching short_trace first) v e) refl
no_holder u c (suc zero) v e = holds_none u c (record second { heard_told = 1; watched = short_trace; heard_watched = short_trace }) v (some-injective (record second { heard_told = 1; watched = short_trace; heard_watched = short_trace }) v e) refl
no_holder u c (suc (suc zero)) v e = holds_none u c spent v (some-injective spent v e) refl
no_holder u c (suc (suc (suc j))) v e = absurd (some-ne-none v (sym e))

part_power : (u : ℕ) (c : Content ℕ) → IsPart joined_now u c → 1 ≤ c.power
part_power u c part = ⊎_elim (λ e. home_power u c e) (λ (h : (j : ℕ) × (v : View ℕ) × (get_elem? joined_now.views j ≡ some v) × Holds v.held u c). absurd (no_holder u c h.0 h.1 h.2 h.3)) part

none_above : (t u : ℕ) → IsIn u [] → u < t
none_above t u h = absurd h

two_not_one : ¬ (◌≡◌ {A = ℕ} 2 1)
two_not_one e = omega arith

pub meeting_runs : MeetingRuns
meeting_runs = (
  _,
  (_, 1, [], refl, refl, refl),
  (
    _,
    (_, empty_stripe, refl, omega arith, refl, none_above 0, refl, (0, refl), refl),
    (
      _,
      (_, empty_stripe, refl, inl (refl, refl), unchanged, tt, refl),
      (
        _,
        (_, empty_stripe, refl, omega arith, refl, none_above 1, refl, (0, refl), refl),
        (
          _,
          (_, empty_stripe, refl, inl (refl, refl), tt, refl),
          (
            _,
            (_, refl, refl),
            (
              _,
              (_, message_of (watching short_trace first), refl, refl, two_not_one, refl, refl),
              (_, (_, refl, omega arith, omega arith, part_power, refl), (refl, refl)),
            ),
          ),
        ),
      ),
    ),
  ),
)
