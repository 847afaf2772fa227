-- The hashes of names.
use Rattle.std.specs.Prelude.{◌≡◌, ℕ, ◌*◌, ◌/◌, ◌^◌, ◌%◌, [], ◌∷◌, bit_xor, fold}
use Rattle.ck_model.specs.Arithmetic.{partial_of}
use Rattle.ck_model.specs.Promise.{Name}
use Rattle.ck_key.specs.declared.key_hash.KeyHash.{KeyHash}

-- a number's name is the list of the number alone, and it hashes to itself
abbrev pub number_hash : Name → ℕ
number_hash [] = 0
number_hash (n ∷ ns) = n % 2 ^ 64

-- the upper half on the lower one
abbrev pub folded_of : ℕ → ℕ
folded_of n = bit_xor n (n / 2 ^ 32)

-- twice a product, and its upper half on its lower one
abbrev pub mixed_of : ℕ → ℕ
mixed_of n = folded_of (folded_of (n * 0xff51afd7ed558ccd % 2 ^ 64) * 0xc4ceb9fe1a85ec53 % 2 ^ 64)

-- a number's name is the list of the number alone, and its hash is mixed
abbrev pub mixed_hash : Name → ℕ
mixed_hash [] = 0
mixed_hash (n ∷ ns) = mixed_of n

-- the name of two numbers is the list of them: the first is mixed, and the second, and both once more
abbrev pub pair_hash : Name → ℕ
pair_hash (n ∷ m ∷ []) = mixed_of (bit_xor (mixed_of n) m)
pair_hash name = 0

-- one byte more in the 64-bit FNV-1a
abbrev pub fnv_step : ℕ → ℕ → ℕ
fnv_step h b = bit_xor h b * 0x100000001b3 % 2 ^ 64

-- the 64-bit FNV-1a of the bytes
abbrev pub text_hash : Name → ℕ
text_hash bytes = fold fnv_step 0xcbf29ce484222325 bytes

-- the name of a number and a text is the number before the bytes, and their hashes are mixed
abbrev pub number_text_hash : Name → ℕ
number_text_hash [] = 0
number_text_hash (n ∷ bytes) = mixed_of (bit_xor (text_hash bytes) (mixed_of n))

-- the hash of the name, and its partial
pub record IsHashOf (hash : Name → ℕ) (q : Name) (h : KeyHash) : Type 0 where
  pub value : h.hash ≡ hash q
  pub partial : h.partial ≡ partial_of (hash q)
