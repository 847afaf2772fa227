-- The exclusive or of eight bytes, folded by halves.
use Rattle.std.proofs.Common.{◌≡◌, ℕ, ◌+◌, ◌/◌, ◌%◌, ◌^◌, sym, ap, ◌∙◌}
use Rattle.std.specs.Prelude.{bit_xor}
use Rattle.std.proofs.lemmas.Nat.{xor_comm, xor_mod, xor_shr, shr-shr}
use lib.Bits.{xor_assoc}
use Rattle.ck_model.specs.Arithmetic.{partial_of}

-- byte j of h, counted in bits
abbrev byte : ℕ → ℕ → ℕ
byte h j = h / 2 ^ j % 2 ^ 8

-- the byte at k of what a step by j leaves
folded : (h j k : ℕ) → byte (bit_xor h (h / 2 ^ j)) k ≡ bit_xor (byte h k) (byte h (j + k))
folded h j k = ap (λ x. x % 2 ^ 8) (xor_shr h (h / 2 ^ j) k) ∙ xor_mod (h / 2 ^ k) (h / 2 ^ j / 2 ^ k) 8 ∙ (λ i. bit_xor (byte h k) (shr-shr h j k i % 2 ^ 8))

-- the lowest byte of what a step by j leaves
folded_low : (h j : ℕ) → bit_xor h (h / 2 ^ j) % 2 ^ 8 ≡ bit_xor (h % 2 ^ 8) (byte h j)
folded_low h j = xor_mod h (h / 2 ^ j) 8

swap_inner : (a b c d : ℕ) → bit_xor (bit_xor a b) (bit_xor c d) ≡ bit_xor (bit_xor a c) (bit_xor b d)
swap_inner a b c d =
    xor_assoc a b (bit_xor c d)
    ∙ ap (bit_xor a) (sym (xor_assoc b c d) ∙ ap (λ x. bit_xor x d) (xor_comm b c) ∙ xor_assoc c b d)
    ∙ sym (xor_assoc a c (bit_xor b d))

-- the bytes of the folds, in the order of the list
in_order : (a b c d e f g h : ℕ) → bit_xor (bit_xor (bit_xor a e) (bit_xor c g)) (bit_xor (bit_xor b f) (bit_xor d h)) ≡ bit_xor (bit_xor (bit_xor (bit_xor (bit_xor (bit_xor (bit_xor a b) c) d) e) f) g) h
in_order a b c d e f g h =
    (λ i. bit_xor (swap_inner a e c g i) (swap_inner b f d h i))
    ∙ swap_inner (bit_xor a c) (bit_xor e g) (bit_xor b d) (bit_xor f h)
    ∙ (λ i. bit_xor (swap_inner a c b d i) (swap_inner e g f h i))
    ∙ (λ i. bit_xor (sym (xor_assoc (bit_xor a b) c d) i) (sym (xor_assoc (bit_xor e f) g h) i))
    ∙ sym (xor_assoc (bit_xor (bit_xor (bit_xor a b) c) d) (bit_xor (bit_xor e f) g) h)
    ∙ ap (λ x. bit_xor x h) (sym (xor_assoc (bit_xor (bit_xor (bit_xor a b) c) d) (bit_xor e f) g) ∙ ap (λ x. bit_xor x g) (sym (xor_assoc (bit_xor (bit_xor (bit_xor a b) c) d) e f)))

pub partial_folded : (h : ℕ) → (let four : ℕ = bit_xor h (h / 2 ^ 32) in let two : ℕ = bit_xor four (four / 2 ^ 16) in bit_xor two (two / 2 ^ 8) % 2 ^ 8) ≡ partial_of h
unfolding partial_of
partial_folded h =
    let four : ℕ = bit_xor h (h / 2 ^ 32) in
    let two : ℕ = bit_xor four (four / 2 ^ 16) in
    folded_low two 8
    ∙ (λ i. bit_xor (folded_low four 16 i) (folded four 16 8 i))
    ∙ (λ i. bit_xor (bit_xor (folded_low h 32 i) (folded h 32 16 i)) (bit_xor (folded h 32 8 i) (folded h 32 24 i)))
    ∙ in_order (h % 2 ^ 8) (byte h 8) (byte h 16) (byte h 24) (byte h 32) (byte h 40) (byte h 48) (byte h 56)
