-- What a type keeps of a pass, known again.
use Rattle.std.proofs.Common.{◌≡◌, ℕ, ◌<◌, List, [], ◌∷◌, length, refl, sym, ap, ◌∙◌, subst, arith, Some, None}
use Rattle.std.proofs.lemmas.Option.{none-some}
use Rattle.std.specs.Prelude.{Option, unwrap_or}
use Rattle.std.specs.Coded.{le_prop, Coded-set, coded_ℕ}
use Rattle.std.proofs.Math.Logic.{∥∥₁_elim}
use Rattle.atomic_table.specs.Seated.{table_id_coded}
use Rattle.ck_model.specs.declared.settings.Settings.{Settings}
use Rattle.ck_core.specs.declared.view.View.{View}
use Rattle.ck_core.specs.Trace.{holder, steps_of, missed_in}
use Rattle.ck_core.specs.State.{found_held}
use Rattle.ck_core.specs.Laws.{HasWatched}
use Rattle.ck_words.specs.Words.{WordsState}
use Rattle.ck_words.specs.Passes.{PassState}
use Rattle.ck_words.specs.Closing.{IsCaller}

module _ {A : Type 0} where
  known_empty : (xs : List A) → ∥ xs ≡ [] ∥₁ → xs ≡ []
  known_empty [] t = refl
  known_empty (x ∷ xs) t = absurd (∥∥₁_elim t (λ a b. absurd a) (λ e. let l : length (x ∷ xs) ≡ 0 = ap length e in omega arith))

known_equal : (m n : ℕ) → ∥ m ≡ n ∥₁ → m ≡ n
known_equal m n t = ∥∥₁_elim t (Coded-set coded_ℕ m n) (λ e. e)

known_settings : (a b : Settings) → ∥ a ≡ b ∥₁ → a ≡ b
known_settings a b t =
    let at : (f : Settings → ℕ) → f a ≡ f b = λ f. ∥∥₁_elim t (Coded-set coded_ℕ (f a) (f b)) (λ e. ap f e) in
    λ i. record {
      s = at (λ x. x.s) i;
      power = at (λ x. x.power) i;
      max = at (λ x. x.max) i;
      callers = at (λ x. x.callers) i;
      turns = at (λ x. x.turns) i;
      rounds = at (λ x. x.rounds) i;
      min_load = at (λ x. x.min_load) i;
    }

abbrev Numbers : ℕ → Option ℕ → Type 0
Numbers n o = (m : ℕ) × (o ≡ Some m) × (m < n)

known_number : (n : ℕ) (o : Option ℕ) → ∥ Numbers n o ∥₁ → Numbers n o
known_number n None t = absurd (∥∥₁_elim t (λ a b. absurd a) (λ k. let e = k.1 in cc))
known_number n (Some m) t = (m, refl, ∥∥₁_elim t le_prop (λ k. subst (λ (x : ℕ). x < n) (sym (ap (λ (o : Option ℕ). unwrap_or o 0) k.1)) k.2))

known_option : (a b : Option ℕ) → ∥ a ≡ b ∥₁ → a ≡ b
known_option None None t = refl
known_option None (Some n) t = absurd (∥∥₁_elim t (λ a b. absurd a) (λ e. none-some n e))
known_option (Some m) None t = absurd (∥∥₁_elim t (λ a b. absurd a) (λ e. none-some m (sym e)))
known_option (Some m) (Some n) t = ap Some (known_equal m n (∥∥₁_elim t squash₁ (λ e. ∣ ap (λ (o : Option ℕ). unwrap_or o 0) e ∣₁)))

first_of : ℕ → List ℕ → ℕ
first_of d [] = d
first_of d (x ∷ xs) = x

rest_of : List ℕ → List ℕ
rest_of [] = []
rest_of (x ∷ xs) = xs

known_list : (xs ys : List ℕ) → ∥ xs ≡ ys ∥₁ → xs ≡ ys
unfolding first_of rest_of
known_list [] ys t = sym (known_empty ys (∥∥₁_elim t squash₁ (λ e. ∣ sym e ∣₁)))
known_list (x ∷ xs) [] t = known_empty (x ∷ xs) t
known_list (x ∷ xs) (y ∷ ys) t = λ i.
    known_equal x y (∥∥₁_elim t squash₁ (λ e. ∣ ap (first_of x) e ∣₁)) i ∷ known_list xs ys (∥∥₁_elim t squash₁ (λ e. ∣ ap rest_of e ∣₁)) i

-- what was watched is known to be legal
known_watched : {V : Type 0} → (v : View V) → ∥ HasWatched v ∥₁ → HasWatched v
known_watched v t = record {
  legal = λ before e more is.
      let holds = holder before e.stripe in (
        λ s. known_option holds None (∥∥₁_elim t squash₁ (λ h. ∣ (h.legal before e more is).0 s ∣₁)),
        λ s. (
          λ none. ∥∥₁_elim t (λ a b. absurd a) (λ h. ((h.legal before e more is).1 s).0 none),
          λ own. ∥∥₁_elim t (λ a b. absurd a) (λ h. ((h.legal before e more is).1 s).1 own),
        ),
        λ ks s. known_option holds (Some e.by) (∥∥₁_elim t squash₁ (λ h. ∣ (h.legal before e more is).2 ks s ∣₁)),
        λ x ks s. (
          known_option holds (Some e.by) (∥∥₁_elim t squash₁ (λ h. ∣ ((h.legal before e more is).3 x ks s).0 ∣₁)),
          known_equal x.by e.by (∥∥₁_elim t squash₁ (λ h. ∣ ((h.legal before e more is).3 x ks s).1 ∣₁)),
        ),
      );
  missed = λ m by. known_list (missed_in (steps_of m v.watched)) (missed_in v.steps) (∥∥₁_elim t squash₁ (λ h. ∣ h.missed m by ∣₁));
}

-- a caller's pass is known to be one
pub known_caller : {V : Type 0} → (w : WordsState) (p : PassState V) → ∥ IsCaller w p ∥₁ → IsCaller w p
known_caller w p t = let number = known_number w.settings.callers p.view.by (∥∥₁_elim t squash₁ (λ c. ∣ c.number ∣₁)) in record {
  own = (∥∥₁_elim t (Coded-set table_id_coded p.table w.table) (λ c. c.own.0), known_settings p.view.settings w.settings (∥∥₁_elim t squash₁ (λ c. ∣ c.own.1 ∣₁)), (λ none. none-some number.0 (sym none ∙ number.1)), λ one. known_empty (found_held p.view) (∥∥₁_elim t squash₁ (λ c. ∣ c.own.3 one ∣₁)), ∥∥₁_elim t le_prop (λ c. c.own.4), ∥∥₁_elim t le_prop (λ c. c.own.5), known_watched p.view (∥∥₁_elim t squash₁ (λ c. ∣ c.own.6 ∣₁)));
  idle = (known_empty p.stripes (∥∥₁_elim t squash₁ (λ c. ∣ c.idle.0 ∣₁)), known_empty p.view.held (∥∥₁_elim t squash₁ (λ c. ∣ c.idle.1 ∣₁)));
  alone = known_empty p.view.others (∥∥₁_elim t squash₁ (λ c. ∣ c.alone ∣₁));
  number = number;
}
