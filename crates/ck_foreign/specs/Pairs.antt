-- The pairs of a table, which are read one or several at a time.
use Rattle.std.specs.Prelude.{◌≡◌, ℕ, ◌-◌, List, [], ◌∷◌, ◌++◌, Option, Some, None, length, map, take, drop, replicate, min}
use Rattle.ck_foreign.specs.declared.keys.NumberKey.{NumberKey}
use Rattle.ck_foreign.specs.declared.keys.BytesKey.{BytesKey}
use Rattle.ck_foreign.specs.declared.code.Code.{Code}
use Rattle.ck_foreign.specs.declared.code.Code.TheVariants as codes
use Rattle.ck_foreign.specs.declared.pairs.CuckooPair.{CuckooPair}
use Rattle.ck_foreign.specs.declared.pairs.CuckooTextPair.{CuckooTextPair}

-- the next of the list, which then has it no more, or none at its end
abbrev pub TakesNext : {A : Type 0} → Option A → List A → List A → Type 0
TakesNext (Some x) was is = was ≡ x ∷ is
TakesNext None was is = (was ≡ []) × (is ≡ [])

-- the same of a place that has a list; one that has none stays so
abbrev pub TakesNextAt : {A : Type 0} → Option A → Option (List A) → Option (List A) → Type 0
TakesNextAt r (Some was) now = (is : List _) × (now ≡ Some is) × TakesNext r was is
TakesNextAt r None now = (now ≡ None) × (r ≡ None)

-- The next n of the list are shown in the first of the places, in their order, and the list has them no more: as many as it has and there are places for.
abbrev pub TakesSome : {A B : Type 0} → (A → B) → List A → List A → List B → List B → ℕ → Type 0
TakesSome shown was is old new n = (n ≡ min (length old) (length was)) × (new ≡ map shown (take n was) ++ drop n old) × (is ≡ drop n was)

-- whether there were any, where any were asked for
abbrev pub code_of_some : {A B : Type 0} → List A → List B → Code
code_of_some [] (x ∷ xs) = codes.Absent
code_of_some was old = codes.Done

-- the same of a place that has a list; one that has none stays so
abbrev pub TakesSomeAt : {A B : Type 0} → (A → B) → Option (List A) → Option (List A) → List B → List B → ℕ → Code → Type 0
TakesSomeAt shown (Some was) now old new n code = (is : List _) × (now ≡ Some is) × TakesSome shown was is old new n × (code ≡ code_of_some was old)
TakesSomeAt shown None now old new n code = (now ≡ None) × (new ≡ old) × (n ≡ 0) × (code ≡ codes.Absent)

-- the pair, as C is shown it
abbrev pub shown_pair : NumberKey × ℕ → CuckooPair
shown_pair x = record { key = x.0.0; value = x.1 }

-- the same, where the key is as many bytes of 64, and the others are 0
abbrev pub shown_text_pair : BytesKey × ℕ → CuckooTextPair
shown_text_pair x = record { key = x.0.0 ++ replicate (64 - length x.0.0) 0; length = length x.0.0; value = x.1 }

-- the pair is told, or there is none
abbrev pub TellsPair : Option (NumberKey × ℕ) → Code → ℕ → ℕ → ℕ → ℕ → Type 0
TellsPair (Some x) code k v key value = (code ≡ codes.Done) × (key ≡ x.0.0) × (value ≡ x.1)
TellsPair None code k v key value = (code ≡ codes.Absent) × (key ≡ k) × (value ≡ v)

-- the same, where the key is as many bytes of its place
abbrev pub TellsTextPair : Option (BytesKey × ℕ) → Code → List ℕ → ℕ → ℕ → List ℕ → ℕ → ℕ → Type 0
TellsTextPair (Some x) code k n v key count value = (code ≡ codes.Done) × (count ≡ length x.0.0) × (take count key ≡ x.0.0) × (value ≡ x.1)
TellsTextPair None code k n v key count value = (code ≡ codes.Absent) × (key ≡ k) × (count ≡ n) × (value ≡ v)
