-- Laws of the arithmetic of buckets and stripes.
use Rattle.std.proofs.Common.{◌/◌, ◌⊎◌, inl, inr, zero, suc, refl, ◌≡◌, ℕ, ◌+◌, ◌-◌, ◌*◌, ◌^◌, ◌%◌, ◌<◌, ◌≤◌, arith, sym, ◌∙◌, ap, subst, ◌↔◌}
use Rattle.std.proofs.Math.Nat.{mod-lt, mul_comm, mod-eq_of_lt, mod-mod, mul-one, mul_assoc, zero-mod}
use Rattle.std.proofs.Math.Pow.{mod-mod-pow}
use Rattle.std.proofs.lemmas.Nat.{pow-add, div-add-mod', div_below, pow_pos, xor_mod, mul-mod_first, mul-mod_second}
use Rattle.std.specs.Int.Bits.{bit_xor, xor_assoc, xor_self, xor_zero_r, xor_zero_l}
use Rattle.ck_model.specs.Arithmetic.{index_of, spread_of, alternate_of, second_of, partial_of}

-- a remainder below a lower power forgets the higher one
pub mod_mod_lower : (n s p : ℕ) → s ≤ p → n % 2 ^ p % 2 ^ s ≡ n % 2 ^ s
mod_mod_lower n s p le =
    let e : p ≡ (p - s) + s = omega arith in
    subst (λ q. n % 2 ^ q % 2 ^ s ≡ n % 2 ^ s) (sym e) (mod-mod-pow n (p - s) s)

pub index_below : (p h : ℕ) → index_of p h < 2 ^ p
unfolding index_of
index_below p h = mod-lt h (pow_pos p)

pub alternate_below : (p t b : ℕ) → alternate_of p t b < 2 ^ p
unfolding alternate_of
alternate_below p t b = mod-lt _ (pow_pos p)

pub second_below : (p h : ℕ) → second_of p h < 2 ^ p
unfolding second_of
second_below p h = alternate_below p _ _

-- below a power the left side of an exclusive or may be cut first
xor_low : (a b k : ℕ) → bit_xor (a % 2 ^ k) b % 2 ^ k ≡ bit_xor a b % 2 ^ k
xor_low a b k =
    xor_mod (a % 2 ^ k) b k ∙ ap (λ y. bit_xor y (b % 2 ^ k)) (mod-mod a (2 ^ k)) ∙ sym (xor_mod a b k)

xor_back_left : (b y : ℕ) → bit_xor b (bit_xor b y) ≡ y
xor_back_left b y = sym (xor_assoc b b y) ∙ ap (λ z. bit_xor z y) (xor_self b) ∙ xor_zero_l y

xor_back : (b x : ℕ) → bit_xor (bit_xor b x) x ≡ b
xor_back b x = xor_assoc b x x ∙ ap (bit_xor b) (xor_self x) ∙ xor_zero_r b

-- the alternate of the alternate is the bucket itself
pub alternate_twice : (p t b : ℕ) → b < 2 ^ p → alternate_of p t (alternate_of p t b) ≡ b
unfolding alternate_of
alternate_twice p t b below =
    xor_low (bit_xor b (spread_of t)) (spread_of t) p ∙ ap (λ y. y % 2 ^ p) (xor_back b (spread_of t)) ∙ mod-eq_of_lt below

-- at a lower power the alternate is that of the bucket at the lower power
pub alternate_lower : (s p t b : ℕ) → s ≤ p → alternate_of p t b % 2 ^ s ≡ alternate_of s t (b % 2 ^ s)
unfolding alternate_of
alternate_lower s p t b le = mod_mod_lower (bit_xor b (spread_of t)) s p le ∙ sym (xor_low b (spread_of t) s)

-- the factor is odd: it has an inverse
times_factor : (p n : ℕ) → p ≤ 64 → n * 0xc6a4a7935bd1e995 % 2 ^ p ≡ 0 → n % 2 ^ p ≡ 0
times_factor p n le e =
    let one : 0xc6a4a7935bd1e995 * 0x5f7a0ea7e59b19bd % 2 ^ p ≡ 1 % 2 ^ p = sym (mod_mod_lower (0xc6a4a7935bd1e995 * 0x5f7a0ea7e59b19bd) p 64 le) in
    let all : n * 1 % 2 ^ p ≡ n * (0xc6a4a7935bd1e995 * 0x5f7a0ea7e59b19bd) % 2 ^ p =
    sym (mul-mod_second n 1 (2 ^ p)) ∙ ap (λ y. n * y % 2 ^ p) (sym one) ∙ mul-mod_second n (0xc6a4a7935bd1e995 * 0x5f7a0ea7e59b19bd) (2 ^ p) in
    ap (λ y. y % 2 ^ p) (sym (mul-one n)) ∙ all
    ∙ ap (λ y. y % 2 ^ p) (sym (mul_assoc n 0xc6a4a7935bd1e995 0x5f7a0ea7e59b19bd))
    ∙ sym (mul-mod_first (n * 0xc6a4a7935bd1e995) 0x5f7a0ea7e59b19bd (2 ^ p))
    ∙ ap (λ y. y * 0x5f7a0ea7e59b19bd % 2 ^ p) e ∙ zero-mod (2 ^ p)

-- a bucket is its own alternate exactly where the power divides `t + 1`
pub alternate_same : (p t b : ℕ) → p ≤ 64 → b < 2 ^ p → (alternate_of p t b ≡ b) ↔ ((t + 1) % 2 ^ p ≡ 0)
unfolding alternate_of spread_of
alternate_same p t b le below =
    let low : spread_of t % 2 ^ p ≡ (t + 1) * 0xc6a4a7935bd1e995 % 2 ^ p = mod_mod_lower ((t + 1) * 0xc6a4a7935bd1e995) p 64 le in
    let split : alternate_of p t b ≡ bit_xor b (spread_of t % 2 ^ p) =
    xor_mod b (spread_of t) p ∙ ap (λ y. bit_xor y (spread_of t % 2 ^ p)) (mod-eq_of_lt below) in (
      λ e. times_factor p (t + 1) le (sym low
          ∙ sym (xor_back_left b (spread_of t % 2 ^ p)) ∙ ap (bit_xor b) (sym split ∙ e) ∙ xor_self b),
      λ e. split ∙ ap (bit_xor b) (low ∙ sym (mul-mod_first (t + 1) 0xc6a4a7935bd1e995 (2 ^ p)) ∙ ap (λ y. y * 0xc6a4a7935bd1e995 % 2 ^ p) e ∙ zero-mod (2 ^ p)) ∙ xor_zero_r b,
    )

-- the two stripes of a hash do not depend on the power
pub index_lower : (s p h : ℕ) → s ≤ p → index_of p h % 2 ^ s ≡ index_of s h
unfolding index_of
index_lower s p h le = mod_mod_lower h s p le

pub second_lower : (s p h : ℕ) → s ≤ p → second_of p h % 2 ^ s ≡ second_of s h
unfolding second_of
second_lower s p h le =
    alternate_lower s p (partial_of h) (index_of p h) le ∙ ap (alternate_of s (partial_of h)) (index_lower s p h le)

-- a bucket of the next power is the old bucket or stands 2^p above it
pub next_power : (p n b : ℕ) → n < 2 ^ (p + 1) → n % 2 ^ p ≡ b → (n ≡ b) ⊎ (n ≡ b + 2 ^ p)
next_power p n b below low = go (n / 2 ^ p) refl
  where
    whole : n / 2 ^ p * 2 ^ p + n % 2 ^ p ≡ n
    whole = div-add-mod' n (2 ^ p)

    double : 2 ^ (p + 1) ≡ 2 * 2 ^ p
    double = pow-add 2 p 1 ∙ mul_comm (2 ^ p) (2 ^ 1)

    small : n / 2 ^ p < 2
    small = div_below n (2 ^ p) 2 (pow_pos p) (subst (λ m. n < m) double below)

    go : (q : ℕ) → n / 2 ^ p ≡ q → (n ≡ b) ⊎ (n ≡ b + 2 ^ p)
    go zero e = inl (omega (arith, whole, low, ap (λ x. x * 2 ^ p) e))
    go (suc zero) e = inr (omega (arith, whole, low, ap (λ x. x * 2 ^ p) e))
    go (suc (suc q)) e = absurd (omega (arith, small, e))
