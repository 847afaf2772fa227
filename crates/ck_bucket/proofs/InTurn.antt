-- Elements of a list that become others, one after the other.
use Rattle.std.proofs.Common.{◌≡◌, ◌≢◌, ℕ, zero, suc, ◌+◌, ◌<◌, ◌≤◌, List, [], ◌∷◌, length, take, get_or, set, refl, sym, ◌∙◌, ap, subst, add-one, arith}
use Rattle.std.proofs.lemmas.List.{length-set, get_or_default, get_or-set_other, take_all}
use Rattle.ck_bucket.specs.Retaining.{EachInTurn}

module _ {S A : Type 0} (R : S → A → A → S → Type 0) where
  pub length-each : (s : S) (old new : List A) (t : S) → EachInTurn R s old new t → length new ≡ length old
  length-each s [] [] t h = refl
  length-each s [] (b ∷ new) t h = absurd h
  length-each s (a ∷ old) [] t h = absurd h
  length-each s (a ∷ old) (b ∷ new) t h = ap suc (length-each h.0 old new t h.2)

  -- The first n have become those of now, and the others are as they were.
  pub record Begins (s : S) (old now : List A) (n : ℕ) (t : S) : Type 0 where
    pub long : length now ≡ length old
    pub first : EachInTurn R s (take n old) (take n now) t
    pub rest : (i : ℕ) (d : A) → n ≤ i → get_or now i d ≡ get_or old i d

  pub begins : (s : S) (old : List A) → Begins s old old 0 s
  begins s old = record { long = refl; first = refl; rest = λ i d le. refl }

  one_more : (n : ℕ) (s : S) (old now : List A) (t : S) (x : A) (u : S) (d : A) → length now ≡ length old → n < length old → EachInTurn R s (take n old) (take n now) t → R t (get_or old n d) x u
      → EachInTurn R s (take (suc n) old) (take (suc n) (set now n x)) u
  one_more n s [] now t x u d long lt first step = absurd (omega arith)
  one_more n s (a ∷ old) [] t x u d long lt first step = absurd (omega arith)
  one_more zero s (a ∷ old) (b ∷ now) t x u d long lt first step = (u, subst (λ p. R p a x u) first step, refl)
  one_more (suc n) s (a ∷ old) (b ∷ now) t x u d long lt first step = (first.0, first.1, one_more n first.0 old now t x u d (omega arith) (omega arith) first.2 step)

  module _ (s : S) (old now : List A) (n : ℕ) (t : S) (so_far : Begins s old now n t) where
    -- the next one, as it is read
    pub begins_read : (d e : A) → n < length old → get_or now n d ≡ get_or old n e
    begins_read d e lt = so_far.rest n d (omega arith) ∙ get_or_default old n d e lt

    -- the next one became another
    pub begins_more : (x : A) (u : S) (d : A) → n < length old → R t (get_or old n d) x u → (after : List A) → after ≡ set now n x → Begins s old after (n + 1) u
    begins_more x u d lt step after is = subst (λ (l : List A). Begins s old l (n + 1) u) (sym is) (record {
      long = length-set now n x ∙ so_far.long;
      first = subst (λ m. EachInTurn R s (take m old) (take m (set now n x)) u) (sym (add-one n)) (one_more n s old now t x u d so_far.long lt so_far.first step);
      rest = λ i e le. let other : i ≢ n = omega arith in get_or-set_other now n i x e other ∙ so_far.rest i e (omega arith);
    })

    -- all are done
    pub begins_all : length old ≤ n → EachInTurn R s old now t
    begins_all le =
        let new_all = take_all n now (omega (arith, so_far.long)) in
        subst (λ (l : List A). EachInTurn R s old l t) new_all (subst (λ (l : List A). EachInTurn R s l (take n now) t) (take_all n old le) so_far.first)
