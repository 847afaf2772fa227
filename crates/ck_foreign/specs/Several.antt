-- What a call on several keys leaves of a handle of C's.
use Rattle.std.specs.Prelude.{◌≡◌, ◌⊎◌, ⊤, ℕ, ◌+◌, ◌-◌, ◌^◌, ◌<◌, ◌≤◌, List, [], ◌∷◌, Bool, true, false, Option, Some, None, IsSome, All, Result, if◌then◌else◌, nat_eq, nat_lt, map}
use Rattle.ck_model.specs.Promise.{Name}
use Rattle.ck_key.specs.Hashes.{mixed_hash}
use Rattle.ck_refusal.specs.declared.refusal.KeysRefused.{KeysRefused}
use Rattle.cuckoo_map.specs.Callers.{CallerState, KeysLeave}
use Rattle.cuckoo_map.specs.SeveralKeys.{FindsAll, ModifiesAll}
use Rattle.ck_foreign.specs.declared.code.Code.{Code}
use Rattle.ck_foreign.specs.declared.code.Code.TheVariants as codes
use Rattle.ck_foreign.specs.declared.several.CuckooEntry.{CuckooEntry}
use Rattle.ck_foreign.specs.declared.several.CuckooChange.{CuckooChange}
use Rattle.ck_foreign.specs.declared.several.CuckooPart.{CuckooPart}
use Rattle.ck_foreign.specs.Codes.{TellsDone, TellsChange}
use Rattle.ck_foreign.specs.Handles.{Calls}

-- The call was made on 1 to 8 keys, or on another number of them, and then nothing was done.
abbrev pub CallsOnFew : ℕ → (CallerState ℕ → CallerState ℕ → Type 0) → Option (CallerState ℕ) → Option (CallerState ℕ) → Code → Type 0
CallsOnFew n P was now code = ((0 < n) × (n ≤ 8)) × Calls P was now code ⊎ ¬ ((0 < n) × (n ≤ 8)) × (now ≡ was) × (code ≡ codes.Count)

-- the entry of a key that has this value
abbrev pub showing : Option ℕ → CuckooEntry → CuckooEntry
showing (Some v) e = record e { value = v; bound = 1 }
showing None e = record e { bound = 0 }

-- each entry shows its value
abbrev pub ShowsEach : List (Option ℕ) → List CuckooEntry → List CuckooEntry → Type 0
ShowsEach [] [] [] = ⊤
ShowsEach (v ∷ vs) (e ∷ es) (f ∷ fs) = (f ≡ showing v e) × ShowsEach vs es fs
ShowsEach vs es fs = ⊥

-- The values of the keys were found, all at one moment, and stand beside them.
abbrev pub FindsEntries : List CuckooEntry → List CuckooEntry → Code → CallerState ℕ → CallerState ℕ → Type 0
FindsEntries was now code c d = (values : List (Option ℕ)) × (r : Result (Unit {0}) KeysRefused) × KeysLeave (λ (x : Unit {0}). FindsAll values) mixed_hash (map (λ (e : CuckooEntry). e.key ∷ []) was) r c d × TellsDone r code × (code ≡ codes.Done → ShowsEach values was now)

-- the new value, where the old one is as expected
abbrev pub swapped : CuckooChange → ℕ → Option ℕ
swapped c v = if nat_eq v c.from then Some c.to else None

-- the value with what is taken and put, where there is so much of it and not more than a number may be
abbrev pub moved : CuckooPart → ℕ → Option ℕ
moved p v = if nat_lt v p.take then None else (if nat_lt (v - p.take + p.put) (2 ^ 64) then Some (v - p.take + p.put) else None)

-- what each value becomes; where there are fewer of one than of the other, something becomes nothing
abbrev pub changed_by : {C : Type 0} → (C → ℕ → Option ℕ) → List C → List ℕ → List (Option ℕ)
changed_by made [] [] = []
changed_by made (c ∷ cs) (v ∷ vs) = made c v ∷ changed_by made cs vs
changed_by made cs vs = None ∷ []

-- all values became what they were to become, or one could not, and none did
abbrev pub ChangesEach : {C : Type 0} → (C → ℕ → Option ℕ) → List C → List ℕ → Bool → List ℕ → Type 0
ChangesEach made cs values true after = changed_by made cs values ≡ map Some after
ChangesEach made cs values false after = ¬ (All IsSome (changed_by made cs values)) × (after ≡ values)

-- The values of the keys were changed so, all at one moment, or none was.
abbrev pub ChangesKeys : {C : Type 0} → (C → ℕ → Option ℕ) → List Name → List C → Code → Code → CallerState ℕ → CallerState ℕ → Type 0
ChangesKeys made names cs declined code c d = (left : List ℕ) × (r : Result (Option Bool) KeysRefused) × KeysLeave (ModifiesAll (ChangesEach made cs) left) mixed_hash names r c d × TellsChange declined r code
