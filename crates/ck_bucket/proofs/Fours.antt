-- Lemmas on a list that is seen four at a time.
use Rattle.std.proofs.Common.{◌≡◌, ℕ, zero, suc, ◌+◌, ◌*◌, ◌<◌, List, [], ◌∷◌, None, refl, ap, map, option_map, replicate, set, length, arith}
use Rattle.ck_model.specs.Slots.{Slot, slot_at}
use Rattle.ck_model.specs.Contents.{row_at}
use Rattle.ck_bucket.specs.Rows.{in_fours}

pub length-fours : {X : Type 0} (n : ℕ) (xs : List X) → length xs ≡ 4 * n → length (in_fours xs) ≡ n
length-fours zero [] e = refl
length-fours zero (a ∷ xs) e = absurd (omega arith)
length-fours (suc n) (a ∷ b ∷ c ∷ d ∷ xs) e = ap suc (length-fours n xs (omega arith))
length-fours (suc n) [] e = absurd (omega arith)
length-fours (suc n) (a ∷ []) e = absurd (omega arith)
length-fours (suc n) (a ∷ b ∷ []) e = absurd (omega arith)
length-fours (suc n) (a ∷ b ∷ c ∷ []) e = absurd (omega arith)

module _ {V : Type 0} where
  front-at : (a b c d : Slot V) (xs : List (Slot V)) (i j : ℕ) → j ≡ i → i < 4 → slot_at (a ∷ b ∷ c ∷ d ∷ []) i ≡ slot_at (a ∷ b ∷ c ∷ d ∷ xs) j
  front-at a b c d xs zero j e l = rw e refl
  front-at a b c d xs (suc zero) j e l = rw e refl
  front-at a b c d xs (suc (suc zero)) j e l = rw e refl
  front-at a b c d xs (suc (suc (suc zero))) j e l = rw e refl
  front-at a b c d xs (suc (suc (suc (suc i)))) j e l = absurd (omega arith)

  -- place j is slot i of row r
  pub fours-at : (xs : List (Slot V)) (r i j : ℕ) → j ≡ r * 4 + i → i < 4 → r < length (in_fours xs) → slot_at (row_at (in_fours xs) r) i ≡ slot_at xs j
  fours-at [] r i j e l w = absurd (omega arith)
  fours-at (a ∷ []) r i j e l w = absurd (omega arith)
  fours-at (a ∷ b ∷ []) r i j e l w = absurd (omega arith)
  fours-at (a ∷ b ∷ c ∷ []) r i j e l w = absurd (omega arith)
  fours-at (a ∷ b ∷ c ∷ d ∷ xs) zero i j e l w = front-at a b c d xs i j (omega arith) l
  fours-at (a ∷ b ∷ c ∷ d ∷ xs) (suc r) i (suc (suc (suc (suc j)))) e l w = fours-at xs r i j (omega arith) l (omega arith)
  fours-at (a ∷ b ∷ c ∷ d ∷ xs) (suc r) i zero e l w = absurd (omega arith)
  fours-at (a ∷ b ∷ c ∷ d ∷ xs) (suc r) i (suc zero) e l w = absurd (omega arith)
  fours-at (a ∷ b ∷ c ∷ d ∷ xs) (suc r) i (suc (suc zero)) e l w = absurd (omega arith)
  fours-at (a ∷ b ∷ c ∷ d ∷ xs) (suc r) i (suc (suc (suc zero))) e l w = absurd (omega arith)

  front-set : (a b c d : Slot V) (xs : List (Slot V)) (i j : ℕ) (o : Slot V) → j ≡ i → i < 4 → in_fours (set (a ∷ b ∷ c ∷ d ∷ xs) j o) ≡ set (a ∷ b ∷ c ∷ d ∷ []) i o ∷ in_fours xs
  front-set a b c d xs zero j o e l = rw e refl
  front-set a b c d xs (suc zero) j o e l = rw e refl
  front-set a b c d xs (suc (suc zero)) j o e l = rw e refl
  front-set a b c d xs (suc (suc (suc zero))) j o e l = rw e refl
  front-set a b c d xs (suc (suc (suc (suc i)))) j o e l = absurd (omega arith)

  -- a write of place j is one of slot i in row r
  pub fours-set : (xs : List (Slot V)) (r i j : ℕ) (o : Slot V) → j ≡ r * 4 + i → i < 4 → r < length (in_fours xs) → in_fours (set xs j o) ≡ set (in_fours xs) r (set (row_at (in_fours xs) r) i o)
  fours-set [] r i j o e l w = absurd (omega arith)
  fours-set (a ∷ []) r i j o e l w = absurd (omega arith)
  fours-set (a ∷ b ∷ []) r i j o e l w = absurd (omega arith)
  fours-set (a ∷ b ∷ c ∷ []) r i j o e l w = absurd (omega arith)
  fours-set (a ∷ b ∷ c ∷ d ∷ xs) zero i j o e l w = front-set a b c d xs i j o (omega arith) l
  fours-set (a ∷ b ∷ c ∷ d ∷ xs) (suc r) i (suc (suc (suc (suc j)))) o e l w = ap (λ ys. (a ∷ b ∷ c ∷ d ∷ []) ∷ ys) (fours-set xs r i j o (omega arith) l (omega arith))
  fours-set (a ∷ b ∷ c ∷ d ∷ xs) (suc r) i zero o e l w = absurd (omega arith)
  fours-set (a ∷ b ∷ c ∷ d ∷ xs) (suc r) i (suc zero) o e l w = absurd (omega arith)
  fours-set (a ∷ b ∷ c ∷ d ∷ xs) (suc r) i (suc (suc zero)) o e l w = absurd (omega arith)
  fours-set (a ∷ b ∷ c ∷ d ∷ xs) (suc r) i (suc (suc (suc zero))) o e l w = absurd (omega arith)

-- rows of empty places
pub fours-free : {X Y : Type 0} (f : X → Y) (n m : ℕ) → m ≡ n * 4 → in_fours (map (option_map f) (replicate m None)) ≡ replicate n (replicate 4 None)
fours-free f zero zero e = refl
fours-free f zero (suc m) e = absurd (omega arith)
fours-free f (suc n) (suc (suc (suc (suc m)))) e = ap (λ ys. (None ∷ None ∷ None ∷ None ∷ []) ∷ ys) (fours-free f n m (omega arith))
fours-free f (suc n) zero e = absurd (omega arith)
fours-free f (suc n) (suc zero) e = absurd (omega arith)
fours-free f (suc n) (suc (suc zero)) e = absurd (omega arith)
fours-free f (suc n) (suc (suc (suc zero))) e = absurd (omega arith)

pub free-at : {V : Type 0} (i : ℕ) → slot_at {V = V} (replicate 4 None) i ≡ None
free-at zero = refl
free-at (suc zero) = refl
free-at (suc (suc zero)) = refl
free-at (suc (suc (suc zero))) = refl
free-at (suc (suc (suc (suc i)))) = refl
