-- Amounts that are moved between names.
use Rattle.std.specs.Prelude.{◌≡◌, ◌⊎◌, ℕ, ◌+◌, List, [], ◌∷◌, ◌++◌, Option}
use Rattle.std.specs.Option.{unwrap_or}
use Rattle.std.specs.FinMap.{entries}
use Rattle.ck_model.specs.declared.history.Act.TheVariants.{Find}
use Rattle.ck_model.specs.declared.history.Call.{Call}
use Rattle.ck_model.specs.declared.history.Call.TheVariants.{On, ChangeTwo, Len, SessionOn, Session}
use Rattle.ck_model.specs.declared.history.Reply.{Reply}
use Rattle.ck_model.specs.declared.history.Reply.TheVariants.{DoneTwo, Absent}
use Rattle.ck_model.specs.declared.history.Entry.{Entry}
use Rattle.ck_model.specs.Promise.{Name, Map, After, IsLegal}

-- the sum of all values
abbrev pub total : List (Name × ℕ) → ℕ
total [] = 0
total (e ∷ es) = e.1 + total es

-- the sum of those that are there
abbrev pub sum_of : List (Option ℕ) → ℕ
sum_of [] = 0
sum_of (o ∷ os) = unwrap_or o 0 + sum_of os

-- a find, a len, a session that changes nothing, or a change of two or a session on some names that keeps the sum of their values
abbrev pub KeepsTotal : Call ℕ → Reply ℕ → Type 0
KeepsTotal (On k Find) r = Unit {0}
KeepsTotal Len r = Unit {0}
KeepsTotal (Session a b) r = a ≡ b
KeepsTotal (SessionOn qs a b) r = sum_of a ≡ sum_of b
KeepsTotal (ChangeTwo j k) r = (r ≡ Absent) ⊎ ((v : ℕ) × (w : ℕ) × (v2 : ℕ) × (w2 : ℕ) × (r ≡ DoneTwo v w v2 w2) × (v + w ≡ v2 + w2))
KeepsTotal _ r = ⊥

abbrev pub EachKeepsTotal : List (Entry ℕ) → Type 0
EachKeepsTotal [] = Unit {0}
EachKeepsTotal (e ∷ es) = KeepsTotal e.call e.reply × EachKeepsTotal es

-- a session shows pairs with this sum
abbrev pub SessionShows : ℕ → Call ℕ → Type 0
SessionShows n (Session a b) = total a ≡ n
SessionShows n _ = Unit {0}

abbrev pub EachSessionShows : ℕ → List (Entry ℕ) → Type 0
EachSessionShows n [] = Unit {0}
EachSessionShows n (e ∷ es) = SessionShows n e.call × EachSessionShows n es

-- Where from some point of a legal history on each entry keeps the sum, each later session shows the sum of that point.
abbrev pub LawOfSums : Type 0
LawOfSums = (log more : List (Entry ℕ)) (m : Map ℕ) → IsLegal (log ++ more) → After log m → EachKeepsTotal more → EachSessionShows (total (entries m)) more
