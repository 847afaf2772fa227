-- What the table asks of keys: that two are equal just where their names are, and that hashes are below 2^64.
use Rattle.std.specs.Prelude.{◌≡◌, ℕ, ◌+◌, ◌*◌, ◌^◌, ◌<◌, ◌↔◌, ◌&&◌, [], ◌∷◌, IsTrue, nat_eq}
use Rattle.std.proofs.Common.{arith}
use Rattle.std.proofs.lemmas.Grind.{common_steps}
use Rattle.cuckoo_map.specs.Promise.{Name}
use Rattle.cuckoo_map.specs.KeyLaws.{mixed_hash_below}
use Rattle.ck_store.specs.SessionKeys.{session_hash}

pub session_names : (a b c d : ℕ) → IsTrue (nat_eq a b && nat_eq c d) ↔ (a ∷ c ∷ [] ≡ b ∷ d ∷ [])
session_names a b c d = grind (arith, common_steps)

pub session_hash_below : (name : Name) → session_hash name < 2 ^ 64
session_hash_below [] = omega arith
session_hash_below (x ∷ []) = omega arith
session_hash_below (x ∷ y ∷ []) = mixed_hash_below ((x * 2 ^ 32 + y) ∷ [])
session_hash_below (x ∷ y ∷ z ∷ name) = omega arith
