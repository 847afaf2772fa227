-- A list whose elements are changed one after another.
use Rattle.std.proofs.Common.{◌≡◌, ℕ, zero, suc, ◌+◌, ◌<◌, ◌≤◌, List, [], ◌∷◌, length, map, refl, sym, ◌∙◌, ap, add-one, arith}
use Rattle.std.specs.Prelude.{slice_index_or, slice_set}
use Rattle.std.proofs.lemmas.List.{get_or_default}

module _ {A : Type 0} (f : A → A) where
  -- the first n are changed
  abbrev pub changed_to : ℕ → List A → List A
  changed_to zero xs = xs
  changed_to (suc n) [] = []
  changed_to (suc n) (x ∷ xs) = f x ∷ changed_to n xs

  -- the next one is changed
  changed-next : (n : ℕ) (xs : List A) (d : A) → slice_set (changed_to n xs) n (f (slice_index_or (changed_to n xs) n d)) ≡ changed_to (suc n) xs
  changed-next zero [] d = refl
  changed-next zero (x ∷ xs) d = refl
  changed-next (suc n) [] d = refl
  changed-next (suc n) (x ∷ xs) d = ap {B = List A} (λ l. f x ∷ l) (changed-next n xs d)

  changed-all : (xs : List A) → changed_to (length xs) xs ≡ map f xs
  changed-all [] = refl
  changed-all (x ∷ xs) = ap {B = List A} (λ l. f x ∷ l) (changed-all xs)

  length-changed : (n : ℕ) (xs : List A) → length (changed_to n xs) ≡ length xs
  length-changed zero xs = refl
  length-changed (suc n) [] = refl
  length-changed (suc n) (x ∷ xs) = ap suc (length-changed n xs)

  -- the others are as before
  changed-past : (n i : ℕ) (xs : List A) (d : A) → n ≤ i → slice_index_or (changed_to n xs) i d ≡ slice_index_or xs i d
  changed-past zero i xs d le = refl
  changed-past (suc n) i [] d le = refl
  changed-past (suc n) zero (x ∷ xs) d le = absurd (omega arith)
  changed-past (suc n) (suc i) (x ∷ xs) d le = changed-past n i xs d (omega arith)

  -- The first n are changed in now.
  module _ (n : ℕ) (xs now : List A) (is : now ≡ changed_to n xs) where
    pub changed-long : length now ≡ length xs
    changed-long = ap length is ∙ length-changed n xs

    -- what is read of the next one is as before
    pub changed-read : (t d : A) → n < length xs → slice_index_or now n t ≡ slice_index_or xs n d
    changed-read t d lt = ap (λ l. slice_index_or l n t) is ∙ changed-past n n xs t (omega arith) ∙ get_or_default xs n t d lt

    -- it is changed, too
    pub changed-more : (t u : A) → u ≡ f (slice_index_or now n t) → slice_set now n u ≡ changed_to (n + 1) xs
    changed-more t u made =
        ap (λ v. slice_set now n v) made
        ∙ ap (λ l. slice_set l n (f (slice_index_or l n t))) is
        ∙ changed-next n xs t ∙ ap (λ m. changed_to m xs) (sym (add-one n))

    pub changed-done : n ≡ length xs → now ≡ map f xs
    changed-done end = is ∙ ap (λ m. changed_to m xs) end ∙ changed-all xs
