-- What each type of keys proves: that equality is that of names, and that hashes fit 64 bits.
use Rattle.std.specs.Prelude.{◌≡◌, ℕ, ◌<◌, ◌*◌, ◌/◌, ◌%◌, ◌^◌, ◌↔◌, ◌&&◌, bit_xor, IsTrue, [], ◌∷◌, List, nat_eq, fold}
use Rattle.std.specs.Cmp.Lexicographic.{pointwise, bytes_decides}
use Rattle.std.proofs.Common.{arith, lit<}
use Rattle.std.proofs.lemmas.Nat.{xor_lt}
use Rattle.std.proofs.lemmas.Grind.{common_steps}
use Rattle.ck_model.specs.Promise.{Name}
use Rattle.ck_key.specs.Hashes.{number_hash, folded_of, mixed_of, mixed_hash, pair_hash, fnv_step, text_hash, number_text_hash}

pub number_names : (a b : ℕ) → IsTrue (nat_eq a b) ↔ (a ∷ [] ≡ b ∷ [])
number_names a b = grind (arith, common_steps)

pub number_hash_below : (n : Name) → number_hash n < 2 ^ 64
number_hash_below [] = omega arith
number_hash_below (x ∷ xs) = omega arith

folded_below : (n : ℕ) → n < 2 ^ 64 → folded_of n < 2 ^ 64
folded_below n below = xor_lt 64 n (n / 2 ^ 32) below (omega arith)

pub mixed_hash_below : (n : Name) → mixed_hash n < 2 ^ 64
mixed_hash_below [] = omega arith
mixed_hash_below (x ∷ xs) = folded_below (folded_of (x * 0xff51afd7ed558ccd % 2 ^ 64) * 0xc4ceb9fe1a85ec53 % 2 ^ 64) (omega arith)

pub pair_names : (a b c d : ℕ) → IsTrue (nat_eq a b && nat_eq c d) ↔ (a ∷ c ∷ [] ≡ b ∷ d ∷ [])
pair_names a b c d = grind (arith, common_steps)

pub pair_hash_below : (n : Name) → pair_hash n < 2 ^ 64
pair_hash_below [] = omega arith
pair_hash_below (x ∷ []) = omega arith
pair_hash_below (x ∷ y ∷ []) = mixed_hash_below (bit_xor (mixed_of x) y ∷ [])
pair_hash_below (x ∷ y ∷ z ∷ n) = omega arith

pub text_names : (a b : Name) → IsTrue (pointwise nat_eq a b) ↔ (a ≡ b)
text_names a b = bytes_decides a b

fnv_below : (h : ℕ) (bytes : List ℕ) → h < 2 ^ 64 → fold fnv_step h bytes < 2 ^ 64
fnv_below h [] below = below
fnv_below h (b ∷ bytes) below = fnv_below (fnv_step h b) bytes (omega arith)

pub text_hash_below : (n : Name) → text_hash n < 2 ^ 64
text_hash_below n = fnv_below _ n (lit< tt)

pub number_text_hash_below : (n : Name) → number_text_hash n < 2 ^ 64
number_text_hash_below [] = omega arith
number_text_hash_below (x ∷ bytes) = mixed_hash_below (bit_xor (text_hash bytes) (mixed_of x) ∷ [])
