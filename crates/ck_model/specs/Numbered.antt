-- What is in a list, and lists of things with numbers: stripes with their contents, callers with their entries.
use Rattle.std.specs.Prelude.{◌≡◌, ◌⊎◌, ℕ, zero, suc, ◌==◌, if◌then◌else◌, List, [], ◌∷◌, map}

module _ {A : Type 0} where
  -- t is one of these
  abbrev pub IsIn : A → List A → Type 0
  IsIn t [] = ⊥
  IsIn t (x ∷ xs) = (x ≡ t) ⊎ IsIn t xs

  -- none stands twice
  abbrev pub AreDistinct : List A → Type 0
  AreDistinct [] = Unit {0}
  AreDistinct (x ∷ xs) = ¬ (IsIn x xs) × AreDistinct xs

  abbrev pub numbers : List (ℕ × A) → List ℕ
  numbers hs = map (λ (h : ℕ × A). h.0) hs

  -- the thing of this number is c
  abbrev pub Holds : List (ℕ × A) → ℕ → A → Type 0
  Holds [] t c = ⊥
  Holds (h ∷ hs) t c = ((h.0 ≡ t) × (h.1 ≡ c)) ⊎ Holds hs t c

  -- the list without the thing of this number
  abbrev pub without : ℕ → List (ℕ × A) → List (ℕ × A)
  without t [] = []
  without t (h ∷ hs) = if h.0 == t then without t hs else h ∷ without t hs

  -- the list with c as the thing of this number
  abbrev pub with_content : ℕ → A → List (ℕ × A) → List (ℕ × A)
  with_content t c [] = []
  with_content t c (h ∷ hs) = (h.0, if h.0 == t then c else h.1) ∷ with_content t c hs

  -- w, but for the things of the list
  abbrev pub over : List (ℕ × A) → (ℕ → A) → ℕ → A
  over [] w t = w t
  over (h ∷ hs) w t = if h.0 == t then h.1 else over hs w t

  -- the first n of w
  abbrev pub listed : ℕ → (ℕ → A) → List (ℕ × A)
  listed zero w = []
  listed (suc n) w = (n, w n) ∷ listed n w
