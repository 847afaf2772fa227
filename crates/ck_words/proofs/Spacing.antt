-- The words that stand eight apart.
use Rattle.std.proofs.Common.{◌≡◌, ℕ, zero, suc, ◌+◌, ◌*◌, ◌<◌, List, ◌∷◌, get_or, set, drop, length, replicate, refl, sym, ap, ◌∙◌, arith, length-drop, get_or-set_same, get_or-set_other}
use Rattle.std.proofs.lemmas.List.{get_or-drop, drop-set-lt, drop-set-add}
use Rattle.ck_words.specs.Rule.{spaced}

next : (t : ℕ) → suc t * 8 ≡ 8 + t * 8
next t = omega arith

pub length-spaced : (n : ℕ) (ws : List ℕ) → length (spaced n ws) ≡ n
length-spaced zero ws = refl
length-spaced (suc n) ws = ap suc (length-spaced n (drop 8 ws))

pub spaced-at : (n t : ℕ) (ws : List ℕ) → t < n → get_or (spaced n ws) t 0 ≡ get_or ws (t * 8) 0
spaced-at zero t ws l = absurd (omega arith)
spaced-at (suc n) zero ws l = refl
spaced-at (suc n) (suc t) ws l = spaced-at n t (drop 8 ws) (omega arith) ∙ (get_or-drop 8 ws (t * 8) 0 ∙ ap (λ i. get_or ws i 0) (sym (next t)))

pub spaced-set : (n t x : ℕ) (ws : List ℕ) → t < n → length ws ≡ n * 8 → spaced n (set ws (t * 8) x) ≡ set (spaced n ws) t x
spaced-set zero t x ws l sized = absurd (omega arith)
spaced-set (suc n) zero x ws l sized =
    let here : get_or (set ws 0 x) 0 0 ≡ x = get_or-set_same ws 0 x 0 (omega arith) in
    let behind : drop 8 (set ws 0 x) ≡ drop 8 ws = drop-set-lt 8 ws 0 x (omega arith) in
    λ i. here i ∷ spaced n (behind i)
spaced-set (suc n) (suc t) x ws l sized =
    let here : get_or (set ws (suc t * 8) x) 0 0 ≡ get_or ws 0 0 = get_or-set_other ws (suc t * 8) 0 x 0 (λ e. omega arith) in
    let behind : drop 8 (set ws (suc t * 8) x) ≡ set (drop 8 ws) (t * 8) x = ap (λ i. drop 8 (set ws i x)) (next t) ∙ drop-set-add 8 ws (t * 8) x in
    let left : length (drop 8 ws) ≡ n * 8 = length-drop 8 ws ∙ (omega arith) in
    let more : spaced n (drop 8 (set ws (suc t * 8) x)) ≡ set (spaced n (drop 8 ws)) t x = ap (spaced n) behind ∙ spaced-set n t x (drop 8 ws) (omega arith) left in
    λ i. here i ∷ more i

drop-replicate : (k n : ℕ) → drop k (replicate {A = ℕ} (k + n) 0) ≡ replicate n 0
drop-replicate zero n = ap {B = List ℕ} (λ m. replicate m 0) (let e : 0 + n ≡ n = omega arith in e)
drop-replicate (suc k) n = ap {B = List ℕ} (λ m. drop (suc k) (replicate m 0)) (let e : suc k + n ≡ suc (k + n) = omega arith in e) ∙ drop-replicate k n

pub spaced-zeros : (n : ℕ) → spaced n (replicate (n * 8) 0) ≡ replicate n 0
spaced-zeros zero = refl
spaced-zeros (suc n) =
    let first : get_or (replicate {A = ℕ} (suc n * 8) 0) 0 0 ≡ 0 = ap (λ m. get_or (replicate {A = ℕ} m 0) 0 0) (let e : suc n * 8 ≡ suc (7 + n * 8) = omega arith in e) in
    let behind : drop 8 (replicate {A = ℕ} (suc n * 8) 0) ≡ replicate (n * 8) 0 = ap (λ m. drop 8 (replicate {A = ℕ} m 0)) (next n) ∙ drop-replicate 8 (n * 8) in
    let more : spaced n (drop 8 (replicate {A = ℕ} (suc n * 8) 0)) ≡ replicate n 0 = ap (spaced n) behind ∙ spaced-zeros n in
    λ i. first i ∷ more i
