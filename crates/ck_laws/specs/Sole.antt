-- A handle without others, and the plain map that a caller stands for.
use Rattle.std.specs.Prelude.{◌≡◌, ◌⊎◌, Option, Some, None, Bool, true, false}
use Rattle.std.specs.FinMap.{get, insert}
use Rattle.ck_model.specs.Promise.{Name, Map, After}
use Rattle.cuckoo_map.specs.Callers.{CallerState}

module _ {V : Type 0} where
  -- its table has no other handle
  pub record IsSole (c : CallerState V) : Type 0 where
    pub table : c.table.settings.callers ≡ 1
    pub client : c.client.settings.callers ≡ 1

  -- what it has seen of the history leaves this map
  abbrev pub HasMap : CallerState V → Map V → Type 0
  HasMap c m = After c.client.seen m

  -- whatever map it had, it has one to which `P` relates that
  abbrev pub Maps : CallerState V → CallerState V → (Map V → Map V → Type 0) → Type 0
  Maps c d P = (m : Map V) → HasMap c m → (m2 : Map V) × HasMap d m2 × P m m2

  -- what an upsert binds a name to: this value, or what the function makes of the one that was there
  abbrev pub upserted : (V → V) → V → Option V → V
  upserted f u None = u
  upserted f u (Some v) = f v

  -- both names are bound to what the function makes of their values, or not both were bound, and nothing changes
  abbrev pub ChangesBoth : (V → V → V × V) → Name → Name → Bool → Map V → Map V → Type 0
  ChangesBoth f j k true m m2 = (v w : V) × (get m j ≡ Some v) × (get m k ≡ Some w) × (m2 ≡ insert (insert m j (f v w).0) k (f v w).1)
  ChangesBoth f j k false m m2 = ((get m j ≡ None) ⊎ (get m k ≡ None)) × (m2 ≡ m)
