-- Pairs that are taken from a list, one after the other.
use Rattle.std.proofs.Common.{◌≡◌, ℕ, ◌+◌, ◌<◌, ◌≤◌, List, [], ◌∷◌, ◌++◌, length, map, take, drop, set, get_or, sym, ◌∙◌, ap, subst, append_assoc, arith, length-drop}
use Rattle.std.proofs.lemmas.List.{drop_more, map_more, length-map, length-take-le}
use Rattle.std.proofs.Math.Seq.{set-append_seam}

module _ {A : Type 0} (was : List A) (i : ℕ) where
  -- where there is a next one, there are more than i
  pub more_than : (x : A) (is : List A) → drop i was ≡ x ∷ is → i < length was
  more_than x is e = omega (arith, length-drop i was, ap length e)

  -- which is in its place, and the others are behind it
  pub next_at : (x : A) (is : List A) → drop i was ≡ x ∷ is → (get_or was i x ≡ x) × (is ≡ drop (i + 1) was)
  next_at x is e = let d = drop_more was i x (more_than x is e) in (cc, cc)

  -- where there is none, there were i
  pub as_many : i ≤ length was → drop i was ≡ [] → length was ≡ i
  as_many l e = omega (arith, length-drop i was, ap length e)

-- the next one is shown in the next place
pub shown_next : {A B : Type 0} (f : A → B) (was : List A) (old now : List B) (i : ℕ) (x : A) (is : List A) → drop i was ≡ x ∷ is → i < length old → now ≡ map f (take i was) ++ drop i old → set now i (f x) ≡ map f (take (i + 1) was) ++ drop (i + 1) old
shown_next {A} {B} f was old now i x is e l so_far =
    let m = more_than was i x is e in
    let shown = map f (take i was) in
    let rest = drop (i + 1) old in
    let long : length shown ≡ i = length-map (take i was) f ∙ length-take-le i was (omega arith) in
    let one_more : map f (take (i + 1) was) ≡ shown ++ f x ∷ [] = map_more f was i x m ∙ ap (λ (y : A). shown ++ f y ∷ []) ((next_at was i x is e).0) in
    ap (λ (ys : List B). set ys i (f x)) (so_far ∙ ap (λ (ys : List B). shown ++ ys) (drop_more old i (f x) l))
    ∙ (subst (λ k. set (shown ++ get_or old i (f x) ∷ rest) k (f x) ≡ shown ++ f x ∷ rest) long (set-append_seam shown (get_or old i (f x)) rest (f x))
    ∙ (sym (append_assoc shown (f x ∷ []) rest) ∙ ap (λ (ys : List B). ys ++ rest) (sym one_more)))
