-- Lists of things with numbers.
use Rattle.std.proofs.Common.{◌≡◌, ℕ, zero, suc, ◌<◌, ◌≢◌, ◌⊎◌, inl, inr, cond, eqb, eq-eqb, ne_eqb, List, [], ◌∷◌, ◌++◌, sym, refl, ap, ◌∙◌, subst, ⊎_elim, arith, Option, Some, None}
use mathlib.Core.Logic.{dite}
use native.Mathlib.Decide.{ℕ_discrete}
use Rattle.ck_model.specs.Numbered.{IsIn, AreDistinct, numbers, Holds, without, with_content, over, listed}

pub if_same : {A : Type 0} (a b : ℕ) (x y : A) → a ≡ b → cond (eqb a b) x y ≡ x
if_same a b x y e = ap (λ z. cond z x y) (eq-eqb a b e)

pub if_else : {A : Type 0} (a b : ℕ) (x y : A) → a ≢ b → cond (eqb a b) x y ≡ y
if_else a b x y n = ap (λ z. cond z x y) (ne_eqb a b n)

pub Some-injective : {A : Type 0} (a b : A) → Some a ≡ Some b → a ≡ b
Some-injective a b e = cc

pub same_option : {A : Type 0} (a b : Option A) → ((v : A) → a ≡ Some v → b ≡ Some v) → ((v : A) → b ≡ Some v → a ≡ Some v) → a ≡ b
same_option None None f g = refl
same_option None (Some v) f g = g v refl
same_option (Some v) b f g = sym (f v refl)

pub dec_in : (t : ℕ) (xs : List ℕ) → Dec (IsIn t xs)
dec_in t [] = no (λ h. h)
dec_in t (x ∷ xs) = dite (ℕ_discrete x t) (λ e. yes (inl e)) (λ n. dite (dec_in t xs) (λ h. yes (inr h)) (λ m. no (λ h. ⊎_elim n m h)))

module _ {A : Type 0} where
  pub in_held : (hs : List (ℕ × A)) (t : ℕ) (c : A) → Holds hs t c → IsIn t (numbers hs)
  in_held [] t c h = h
  in_held (x ∷ xs) t c h = ⊎_elim (λ (e : (x.0 ≡ t) × (x.1 ≡ c)). inl e.0) (λ r. inr (in_held xs t c r)) h

  pub held_of_in : (hs : List (ℕ × A)) (t : ℕ) → IsIn t (numbers hs) → (c : A) × Holds hs t c
  held_of_in [] t h = absurd h
  held_of_in (x ∷ xs) t h = ⊎_elim (λ e. (x.1, inl (e, refl))) (λ r. let z = held_of_in xs t r in (z.0, inr z.1)) h

  pub one_content : (hs : List (ℕ × A)) → AreDistinct (numbers hs) → (t : ℕ) (c d : A) → Holds hs t c → Holds hs t d → c ≡ d
  one_content [] a t c d h g = absurd h
  one_content (x ∷ xs) a t c d h g = ⊎_elim
      (λ (e : (x.0 ≡ t) × (x.1 ≡ c)). ⊎_elim (λ (f : (x.0 ≡ t) × (x.1 ≡ d)). sym e.1 ∙ f.1) (λ r. absurd (a.0 (subst (λ (q : ℕ). IsIn q (numbers xs)) (sym e.0) (in_held xs t d r)))) g)
      (λ l. ⊎_elim (λ (f : (x.0 ≡ t) × (x.1 ≡ d)). absurd (a.0 (subst (λ (q : ℕ). IsIn q (numbers xs)) (sym f.0) (in_held xs t c l)))) (λ r. one_content xs a.1 t c d l r) g) h

  pub over_miss : (hs : List (ℕ × A)) (w : ℕ → A) (q : ℕ) → ¬ (IsIn q (numbers hs)) → over hs w q ≡ w q
  over_miss [] w q out = refl
  over_miss (h ∷ hs) w q out = if_else h.0 q h.1 (over hs w q) (λ e. out (inl e)) ∙ over_miss hs w q (λ r. out (inr r))

  pub over_hit : (hs : List (ℕ × A)) (w : ℕ → A) → AreDistinct (numbers hs) → (q : ℕ) (c : A) → Holds hs q c → over hs w q ≡ c
  over_hit [] w a q c h = absurd h
  over_hit (x ∷ xs) w a q c h = ⊎_elim (λ (e : (x.0 ≡ q) × (x.1 ≡ c)). if_same x.0 q x.1 (over xs w q) e.0 ∙ e.1)
      (λ r. if_else x.0 q x.1 (over xs w q) (λ e. a.0 (subst (λ (z : ℕ). IsIn z (numbers xs)) (sym e) (in_held xs q c r))) ∙ over_hit xs w a.1 q c r) h

  pub in_listed : (n : ℕ) (w : ℕ → A) (t : ℕ) (c : A) → Holds (listed n w) t c → (t < n) × (w t ≡ c)
  in_listed zero w t c h = absurd h
  in_listed (suc n) w t c h = ⊎_elim (λ (e : (n ≡ t) × (w n ≡ c)). let f = e.0 in (omega arith, ap w (sym e.0) ∙ e.1))
      (λ r. let z = in_listed n w t c r in let f = z.0 in (omega arith, z.1)) h

  pub listed_at : (n : ℕ) (w : ℕ → A) (t : ℕ) → t < n → Holds (listed n w) t (w t)
  listed_at zero w t l = absurd (omega arith)
  listed_at (suc n) w t l = dite (ℕ_discrete n t) (λ e. inl (e, ap w e)) (λ ne. inr (listed_at n w t (omega arith)))

  pub listed_as : (n : ℕ) (w : ℕ → A) (t : ℕ) (c : A) → t < n → w t ≡ c → Holds (listed n w) t c
  listed_as n w t c l e = subst (λ (x : A). Holds (listed n w) t x) e (listed_at n w t l)

  pub distinct_listed : (n : ℕ) (w : ℕ → A) → AreDistinct (numbers (listed n w))
  distinct_listed zero w = tt
  distinct_listed (suc n) w = ((λ i. let z = held_of_in (listed n w) n i in let l = (in_listed n w n z.0 z.1).0 in omega arith), distinct_listed n w)

  pub in_without : (t : ℕ) (hs : List (ℕ × A)) (q : ℕ) (c : A) → Holds (without t hs) q c → (q ≢ t) × Holds hs q c
  in_without t [] q c h = absurd h
  in_without t (x ∷ xs) q c h = dite (ℕ_discrete x.0 t)
      (λ e. let z = in_without t xs q c (subst (λ (l : List (ℕ × A)). Holds l q c) (if_same x.0 t (without t xs) (x ∷ without t xs) e) h) in (z.0, inr z.1))
      (λ ne. ⊎_elim (λ (f : (x.0 ≡ q) × (x.1 ≡ c)). ((λ e. ne (f.0 ∙ e)), inl f)) (λ r. let z = in_without t xs q c r in (z.0, inr z.1))
      (subst (λ (l : List (ℕ × A)). Holds l q c) (if_else x.0 t (without t xs) (x ∷ without t xs) ne) h))

  pub kept_without : (t : ℕ) (hs : List (ℕ × A)) (q : ℕ) (c : A) → q ≢ t → Holds hs q c → Holds (without t hs) q c
  kept_without t [] q c ne h = h
  kept_without t (x ∷ xs) q c ne h = dite (ℕ_discrete x.0 t)
      (λ e. subst (λ (l : List (ℕ × A)). Holds l q c) (sym (if_same x.0 t (without t xs) (x ∷ without t xs) e))
      (⊎_elim (λ (f : (x.0 ≡ q) × (x.1 ≡ c)). absurd (ne (sym f.0 ∙ e))) (λ r. kept_without t xs q c ne r) h))
      (λ other. subst (λ (l : List (ℕ × A)). Holds l q c) (sym (if_else x.0 t (without t xs) (x ∷ without t xs) other))
      (⊎_elim (λ f. inl f) (λ r. inr (kept_without t xs q c ne r)) h))

  not_in_without : (t x : ℕ) (hs : List (ℕ × A)) → ¬ (IsIn x (numbers hs)) → ¬ (IsIn x (numbers (without t hs)))
  not_in_without t x hs out i = let z = held_of_in (without t hs) x i in out (in_held hs x z.0 (in_without t hs x z.0 z.1).1)

  pub distinct_without : (t : ℕ) (hs : List (ℕ × A)) → AreDistinct (numbers hs) → AreDistinct (numbers (without t hs))
  distinct_without t [] a = a
  distinct_without t (x ∷ xs) a = dite (ℕ_discrete x.0 t)
      (λ e. subst (λ (l : List (ℕ × A)). AreDistinct (numbers l)) (sym (if_same x.0 t (without t xs) (x ∷ without t xs) e)) (distinct_without t xs a.1))
      (λ ne. subst (λ (l : List (ℕ × A)). AreDistinct (numbers l)) (sym (if_else x.0 t (without t xs) (x ∷ without t xs) ne)) (not_in_without t x.0 xs a.0, distinct_without t xs a.1))

  pub held_either : (xs ys : List (ℕ × A)) (t : ℕ) (c : A) → Holds (xs ++ ys) t c → Holds xs t c ⊎ Holds ys t c
  held_either [] ys t c h = inr h
  held_either (x ∷ xs) ys t c h = ⊎_elim (λ e. inl (inl e)) (λ r. ⊎_elim (λ l. inl (inr l)) (λ l. inr l) (held_either xs ys t c r)) h

  pub held_first : (xs ys : List (ℕ × A)) (t : ℕ) (c : A) → Holds xs t c → Holds (xs ++ ys) t c
  held_first [] ys t c h = absurd h
  held_first (x ∷ xs) ys t c h = ⊎_elim (λ e. inl e) (λ r. inr (held_first xs ys t c r)) h

  pub held_second : (xs ys : List (ℕ × A)) (t : ℕ) (c : A) → Holds ys t c → Holds (xs ++ ys) t c
  held_second [] ys t c h = h
  held_second (x ∷ xs) ys t c h = inr (held_second xs ys t c h)

  pub in_either : (xs ys : List (ℕ × A)) (t : ℕ) → IsIn t (numbers (xs ++ ys)) → IsIn t (numbers xs) ⊎ IsIn t (numbers ys)
  in_either xs ys t i = let z = held_of_in (xs ++ ys) t i in ⊎_elim (λ h. inl (in_held xs t z.0 h)) (λ h. inr (in_held ys t z.0 h)) (held_either xs ys t z.0 z.1)

  pub in_first : (xs ys : List (ℕ × A)) (t : ℕ) → IsIn t (numbers xs) → IsIn t (numbers (xs ++ ys))
  in_first xs ys t i = let z = held_of_in xs t i in in_held (xs ++ ys) t z.0 (held_first xs ys t z.0 z.1)

  pub in_second : (xs ys : List (ℕ × A)) (t : ℕ) → IsIn t (numbers ys) → IsIn t (numbers (xs ++ ys))
  in_second xs ys t i = let z = held_of_in ys t i in in_held (xs ++ ys) t z.0 (held_second xs ys t z.0 z.1)

  distinct_append : (xs ys : List (ℕ × A)) → AreDistinct (numbers xs) → AreDistinct (numbers ys) → ((t : ℕ) → IsIn t (numbers xs) → ¬ (IsIn t (numbers ys))) → AreDistinct (numbers (xs ++ ys))
  distinct_append [] ys a b apart = b
  distinct_append (x ∷ xs) ys a b apart = ((λ i. ⊎_elim a.0 (apart x.0 (inl refl)) (in_either xs ys x.0 i)), distinct_append xs ys a.1 b (λ t i. apart t (inr i)))

  -- ys put into a list whose numbers are others
  pub distinct_between : (xs ys zs : List (ℕ × A)) → AreDistinct (numbers (xs ++ zs)) → AreDistinct (numbers ys) → ((t : ℕ) → IsIn t (numbers ys) → ¬ (IsIn t (numbers (xs ++ zs)))) → AreDistinct (numbers (xs ++ (ys ++ zs)))
  distinct_between [] ys zs a b apart = distinct_append ys zs b a apart
  distinct_between (x ∷ xs) ys zs a b apart = (
    (λ i. ⊎_elim (λ h. a.0 (in_first xs zs x.0 h)) (λ r. ⊎_elim (λ h. apart x.0 h (inl refl)) (λ h. a.0 (in_second xs zs x.0 h)) (in_either ys zs x.0 r)) (in_either xs (ys ++ zs) x.0 i)),
    distinct_between xs ys zs a.1 b (λ t i h. apart t i (inr h)),
  )

  -- one taken out of a list
  pub distinct_cut : (xs : List (ℕ × A)) (y : ℕ × A) (zs : List (ℕ × A)) → AreDistinct (numbers (xs ++ (y ∷ zs))) → AreDistinct (numbers (xs ++ zs)) × ¬ (IsIn y.0 (numbers (xs ++ zs)))
  distinct_cut [] y zs a = (a.1, a.0)
  distinct_cut (x ∷ xs) y zs a =
      let z = distinct_cut xs y zs a.1 in (
        ((λ i. a.0 (⊎_elim (λ h. in_first xs (y ∷ zs) x.0 h) (λ h. in_second xs (y ∷ zs) x.0 (inr h)) (in_either xs zs x.0 i))), z.0),
        (λ i. ⊎_elim (λ e. a.0 (subst (λ (q : ℕ). IsIn q (numbers (xs ++ (y ∷ zs)))) (sym e) (in_second xs (y ∷ zs) y.0 (inl refl)))) z.1 i),
      )

  pub numbers-with : (t : ℕ) (c : A) (hs : List (ℕ × A)) → numbers (with_content t c hs) ≡ numbers hs
  numbers-with t c [] = refl
  numbers-with t c (h ∷ hs) = ap {B = List ℕ} (λ l. h.0 ∷ l) (numbers-with t c hs)

  pub holds_with : (t : ℕ) (c : A) (hs : List (ℕ × A)) (u : ℕ) (d : A) → Holds (with_content t c hs) u d → ((u ≡ t) × (c ≡ d)) ⊎ ((u ≢ t) × Holds hs u d)
  holds_with t c [] u d h = absurd h
  holds_with t c (x ∷ xs) u d h = ⊎_elim
      (λ (e : (x.0 ≡ u) × (cond (eqb x.0 t) c x.1 ≡ d)). dite (ℕ_discrete x.0 t)
      (λ f. inl (sym e.0 ∙ f, sym (if_same x.0 t c x.1 f) ∙ e.1))
      (λ ne. inr ((λ f. ne (e.0 ∙ f)), inl (e.0, sym (if_else x.0 t c x.1 ne) ∙ e.1))))
      (λ r. ⊎_elim (λ e. inl e) (λ (e : (u ≢ t) × Holds xs u d). inr (e.0, inr e.1)) (holds_with t c xs u d r)) h

  pub with_here : (t : ℕ) (c : A) (hs : List (ℕ × A)) → IsIn t (numbers hs) → Holds (with_content t c hs) t c
  with_here t c [] i = absurd i
  with_here t c (x ∷ xs) i = ⊎_elim (λ e. inl (e, if_same x.0 t c x.1 e)) (λ r. inr (with_here t c xs r)) i

  pub with_else : (t : ℕ) (c : A) (hs : List (ℕ × A)) (u : ℕ) (d : A) → u ≢ t → Holds hs u d → Holds (with_content t c hs) u d
  with_else t c [] u d ne h = h
  with_else t c (x ∷ xs) u d ne h = ⊎_elim (λ (e : (x.0 ≡ u) × (x.1 ≡ d)). inl (e.0, if_else x.0 t c x.1 (λ f. ne (sym e.0 ∙ f)) ∙ e.1)) (λ r. inr (with_else t c xs u d ne r)) h
