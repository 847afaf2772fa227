-- The hash of the names of session keys.
use Rattle.std.specs.Prelude.{ℕ, ◌+◌, ◌*◌, ◌^◌, [], ◌∷◌}
use Rattle.cuckoo_map.specs.Promise.{Name}
use Rattle.cuckoo_map.specs.Hashes.{mixed_of}

-- the two numbers side by side, mixed
abbrev pub session_hash : Name → ℕ
session_hash (user ∷ device ∷ []) = mixed_of (user * 2 ^ 32 + device)
session_hash name = 0
