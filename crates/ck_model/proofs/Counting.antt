-- Numbers that are counted.
use Rattle.std.proofs.Common.{◌≡◌, ℕ, zero, suc, ◌+◌, ◌<◌, [], ◌∷◌, ◌++◌, add-one, length, get_or, refl, sym, ap, ◌∙◌, subst, ⊎_elim, inl, inr, arith}
use Rattle.ck_model.specs.Numbered.{IsIn}
use Rattle.ck_model.specs.Counting.{counting}

pub counting-next : (n a : ℕ) → counting a (suc n) ≡ counting a n ++ (a + n) ∷ []
counting-next zero a = ap (λ m. m ∷ []) (let e : a ≡ a + 0 = omega arith in e)
counting-next (suc n) a = ap (λ l. a ∷ l) (counting-next n (suc a)) ∙ ap (λ m. a ∷ counting (suc a) n ++ m ∷ []) (let e : suc a + n ≡ a + suc n = omega arith in e)

pub counting-more : (n : ℕ) → counting 0 n ++ n ∷ [] ≡ counting 0 (n + 1)
counting-more n = ap (λ m. counting 0 n ++ m ∷ []) (let e : n ≡ 0 + n = omega arith in e) ∙ (sym (counting-next n 0) ∙ ap (counting 0) (sym (add-one n)))

pub length-counting : (n a : ℕ) → length (counting a n) ≡ n
length-counting zero a = refl
length-counting (suc n) a = ap suc (length-counting n (suc a))

pub counted_at : (n a i : ℕ) → i < n → get_or (counting a n) i 0 ≡ a + i
counted_at zero a i l = absurd (omega arith)
counted_at (suc n) a zero l = omega arith
counted_at (suc n) a (suc i) l = counted_at n (suc a) i (omega arith) ∙ (omega arith)

pub counting-at : (n i : ℕ) → i < n → get_or (counting 0 n) i 0 ≡ i
counting-at n i l = counted_at n 0 i l ∙ (omega arith)

below_counting : (n a m : ℕ) → IsIn m (counting a n) → m < a + n
below_counting zero a m h = absurd h
below_counting (suc n) a m h = ⊎_elim (λ e. omega arith) (λ r. let z = below_counting n (suc a) m r in omega arith) h

pub counting_below : (n m : ℕ) → IsIn m (counting 0 n) → m < n
counting_below n m h = let l = below_counting n 0 m h in omega arith

in_counting_from : (n a k : ℕ) → k < n → IsIn (a + k) (counting a n)
in_counting_from zero a k l = absurd (omega arith)
in_counting_from (suc n) a zero l = inl (omega arith)
in_counting_from (suc n) a (suc k) l = inr (subst (λ m. IsIn m (counting (suc a) n)) (let e : suc a + k ≡ a + suc k = omega arith in e) (in_counting_from n (suc a) k (omega arith)))

pub in_counting : (n m : ℕ) → m < n → IsIn m (counting 0 n)
in_counting n m l = subst (λ x. IsIn x (counting 0 n)) (let e : 0 + m ≡ m = omega arith in e) (in_counting_from n 0 m l)
