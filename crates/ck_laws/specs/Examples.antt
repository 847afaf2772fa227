-- Histories of a plain map of numbers that are legal, and some that aren't, as a test of the definitions.
use Rattle.std.specs.Prelude.{ℕ, List, [], ◌∷◌, Some, None}
use Rattle.ck_model.specs.declared.history.Act.TheVariants.{Find, Insert, Change, Erase}
use Rattle.ck_model.specs.declared.history.Call.{Call}
use Rattle.ck_model.specs.declared.history.Call.TheVariants.{On, ChangeTwo, Len, SessionOn, Session}
use Rattle.ck_model.specs.declared.history.Reply.{Reply}
use Rattle.ck_model.specs.declared.history.Reply.TheVariants.{Was, New, Done, DoneTwo, Count, Closed}
use Rattle.ck_model.specs.declared.history.Entry.{Entry}
use Rattle.ck_model.specs.Promise.{Name}

-- two names
abbrev pub payer : Name
payer = 0 ∷ []

abbrev pub payee : Name
payee = 3 ∷ []

abbrev pub said : Call ℕ → Reply ℕ → Entry ℕ
said call reply = record { by = 0; call = call; reply = reply }

-- both are bound, four go from one to the other, and one is found
abbrev pub a_transfer : List (Entry ℕ)
a_transfer = said (On payer (Insert 10)) New ∷ said (On payee (Insert 5)) New ∷ said (ChangeTwo payer payee) (DoneTwo 10 5 6 9) ∷ said (On payer Find) (Was (Some 6)) ∷ []

-- what one is bound to goes to the other name, and is found there alone
abbrev pub a_renaming : List (Entry ℕ)
a_renaming = said (On payer (Insert 5)) New ∷ said (SessionOn (payer ∷ payee ∷ []) (Some 5 ∷ None ∷ []) (None ∷ Some 5 ∷ [])) Closed ∷ said (On payer Find) (Was None) ∷ said (On payee Find) (Was (Some 5)) ∷ []

-- what was never bound is found
abbrev pub from_nowhere : List (Entry ℕ)
from_nowhere = said (On payer Find) (Was (Some 1)) ∷ []

-- both of two insertions of one name are new
abbrev pub two_new : List (Entry ℕ)
two_new = said (On payer (Insert 5)) New ∷ said (On payer (Insert 6)) New ∷ []

-- a change is lost
abbrev pub lost_change : List (Entry ℕ)
lost_change = said (On payer (Insert 5)) New ∷ said (On payer Change) (Done 5 6) ∷ said (On payer Find) (Was (Some 5)) ∷ []

-- an erased name is found
abbrev pub found_erased : List (Entry ℕ)
found_erased = said (On payer (Insert 5)) New ∷ said (On payer Erase) (Was (Some 5)) ∷ said (On payer Find) (Was (Some 5)) ∷ []

-- a change of two is seen by half
abbrev pub half_a_transfer : List (Entry ℕ)
half_a_transfer = said (On payer (Insert 10)) New ∷ said (On payee (Insert 5)) New ∷ said (ChangeTwo payer payee) (DoneTwo 10 5 6 9) ∷ said (On payee Find) (Was (Some 5)) ∷ []

-- a session on some names saw a value that was no longer bound
abbrev pub late_session : List (Entry ℕ)
late_session = said (On payer (Insert 5)) New ∷ said (On payer Change) (Done 5 6) ∷ said (SessionOn (payer ∷ []) (Some 5 ∷ []) (Some 7 ∷ [])) Closed ∷ []

-- a session on all names has a name twice
abbrev pub name_twice : List (Entry ℕ)
name_twice = said (Session [] ((payer, 1) ∷ (payer, 2) ∷ [])) Closed ∷ []

-- one that is bound is not counted
abbrev pub miscounted : List (Entry ℕ)
miscounted = said (On payer (Insert 5)) New ∷ said Len (Count 0) ∷ []
