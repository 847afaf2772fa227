-- The state of the core, and the invariant that it keeps.
use Rattle.std.specs.Prelude.{◌≡◌, ◌≢◌, ◌⊎◌, ℕ, ◌^◌, ◌<◌, ◌≤◌, List, [], ◌∷◌, ◌++◌, length, slice_index, Option, Some, None, All}
use mathlib.Core.Option.{some}
use lib.ListN.{get_elem?}
use Rattle.ck_model.specs.declared.history.Entry.{Entry}
use Rattle.ck_model.specs.Numbered.{IsIn, AreDistinct, numbers, Holds}
use Rattle.ck_model.specs.Promise.{Client, After, StartsWith, subhistory}
use Rattle.ck_model.specs.declared.contents.Content.{Content}
use Rattle.ck_model.specs.Contents.{Layout, bindings, Lawful, whole}
use Rattle.ck_model.specs.Sections.{HasAll}
use Rattle.ck_core.specs.declared.trace.LockEvent.{LockEvent}
use Rattle.ck_core.specs.declared.view.View.{View}
use Rattle.ck_core.specs.Trace.{holder, IsLegalTrace, decided_in, steps_of, missed_in}
use Rattle.ck_core.specs.Contained.{content_in}

-- The words of the stripes, what lies in their places, the views, and the steps on the words. A place is empty while its stripe is held.
pub record Configuration (V : Type 0) : Type 0 where
  pub words : List ℕ
  pub homes : List (Option (Content V))
  pub views : List (View V)
  pub trace : List (LockEvent V)

-- nothing in the list is by the caller m, where `by` tells who made each
abbrev pub NoneBy : {A : Type 0} → (A → ℕ) → ℕ → List A → Type 0
NoneBy by m [] = Unit {0}
NoneBy by m (x ∷ xs) = (by x ≢ m) × NoneBy by m xs

-- Of a list to which callers add, this was seen: it begins the list, and the rest is by none of such callers.
pub record Sees {A : Type 0} (by : A → ℕ) (P : ℕ → Type 0) (all seen : List A) : Type 0 where
  pub unseen : List A
  pub begins : all ≡ seen ++ unseen
  pub by_others : (m : ℕ) → P m → NoneBy by m unseen

module _ {V : Type 0} where
  -- who made an entry
  abbrev pub author_of : Entry V → ℕ
  author_of e = e.by

  -- who made a step
  abbrev pub by_of : LockEvent V → ℕ
  by_of e = e.by

  -- a number with its entries, where there is one
  abbrev pub own : Option ℕ → List (Entry V) → List (ℕ × List (Entry V))
  own None l = []
  own (Some m) l = (m, l) ∷ []

  -- the view's own number and those that it keeps for others, each with its entries
  abbrev pub owned : View V → List (ℕ × List (Entry V))
  owned v = own v.by v.mine ++ v.others

  -- what its client sees of a view
  abbrev pub client_of : View V → Client V
  client_of v = record { settings = v.settings; by = v.by; seen = v.seen; mine = v.mine }

  -- the stripes that a view's caller has found held, the last first
  abbrev pub found_held : View V → List ℕ
  found_held v = missed_in v.steps

  -- the view is a caller's
  abbrev pub HasNumber : View V → Type 0
  HasNumber v = (m : ℕ) × (v.by ≡ Some m)

  -- what the stripe t contains: at home, or in its holder's view
  abbrev pub IsPart : Configuration V → ℕ → Content V → Type 0
  IsPart s t c = (get_elem? s.homes t ≡ some (Some c)) ⊎ ((j : ℕ) × (v : View V) × (get_elem? s.views j ≡ some v) × Holds v.held t c)

  -- Of n stripes, the word is 0 where the stripe is at home, and 1 where its owner holds it and its place is empty. Stripe t contains w t.
  pub record Places (n : ℕ) (s : Configuration V) (w : ℕ → Content V) : Type 0 where
    pub owner : ℕ → ℕ
    pub words_sized : length s.words ≡ n
    pub homes_sized : length s.homes ≡ n
    pub is_bit : (t : ℕ) → t < n → slice_index s.words t < 2
    pub at_home : (t : ℕ) → t < n → slice_index s.words t ≡ 0 → get_elem? s.homes t ≡ some (Some (w t))
    pub is_held : (t : ℕ) → t < n → slice_index s.words t ≡ 1 → (v : View V) × (get_elem? s.views (owner t) ≡ some v) × Holds v.held t (w t)
    pub is_out : (t : ℕ) → t < n → slice_index s.words t ≡ 1 → get_elem? s.homes t ≡ some None
    pub holds : (j : ℕ) (v : View V) → get_elem? s.views j ≡ some v → (t : ℕ) (c : Content V) → Holds v.held t c → (t < n) × (slice_index s.words t ≡ 1) × (owner t ≡ j) × (w t ≡ c)
    pub distinct : (j : ℕ) (v : View V) → get_elem? s.views j ≡ some v → AreDistinct (numbers v.held)

  -- What was seen and heard begins the history, whose rest behind what was seen is by others. The entries of the view's numbers are all that the history has of them.
  pub record Knows (callers : ℕ) (log : List (Entry V)) (v : View V) : Type 0 where
    pub sees : Sees author_of (λ m. v.by ≡ Some m) log v.seen
    pub heard : StartsWith log v.heard
    pub calls : (m : ℕ) (l : List (Entry V)) → Holds (owned v) m l → subhistory m log ≡ l
    pub distinct : AreDistinct (numbers (owned v))
    pub within : (m : ℕ) → IsIn m (numbers (owned v)) → m < callers

  -- No two views have one number, and each knows the history.
  pub record Callers (callers : ℕ) (log : List (Entry V)) (views : List (View V)) : Type 0 where
    pub keeper : ℕ → ℕ
    pub keeps : (j : ℕ) (v : View V) → get_elem? views j ≡ some v → (m : ℕ) → IsIn m (numbers (owned v)) → keeper m ≡ j
    pub knows : (j : ℕ) (v : View V) → get_elem? views j ≡ some v → Knows callers log v

  -- What was watched begins the trace, whose rest is by none of the view's numbers, and begins with what a caller that was met had watched. The caller made its own steps in it.
  pub record Watches (trace : List (LockEvent V)) (v : View V) : Type 0 where
    pub sees : Sees by_of (λ m. IsIn m (numbers (owned v))) trace v.watched
    pub heard : StartsWith v.watched v.heard_watched
    pub own : (m : ℕ) → v.by ≡ Some m → steps_of m v.watched ≡ v.steps

  -- The trace of n stripes is legal, with steps of callers alone, and by it a stripe has no holder where it is at home, and else the caller that holds it.
  pub record Traces (n callers : ℕ) (s : Configuration V) : Type 0 where
    pub legal : IsLegalTrace s.trace
    pub by_callers : All (λ (e : LockEvent V). e.by < callers) s.trace
    pub free : (t : ℕ) → t < n → slice_index s.words t ≡ 0 → holder s.trace t ≡ None
    pub held : (j : ℕ) (v : View V) → get_elem? s.views j ≡ some v → (t : ℕ) (c : Content V) → Holds v.held t c → holder s.trace t ≡ v.by
    pub watched : (j : ℕ) (v : View V) → get_elem? s.views j ≡ some v → Watches s.trace v

  -- The history invariant: each stripe is in its place or with one holder, a caller, who has seen the whole history where it holds all; the whole is lawful, no view was told a power above the table's, each view knows a beginning of the history, the trace is legal and tells what the stripes contain, the entries that were decided in it are the history, and that is legal and leads to the bindings of the whole.
  pub record HistoryInvariant (k : Layout) (callers : ℕ) (log : List (Entry V)) (s : Configuration V) : Type 0 where
    pub contents : ℕ → Content V
    pub places : Places (2 ^ k.s) s contents
    pub holders : (j : ℕ) (v : View V) → get_elem? s.views j ≡ some v → (t : ℕ) (c : Content V) → Holds v.held t c → HasNumber v
    pub all_seen : (j : ℕ) (v : View V) → get_elem? s.views j ≡ some v → HasAll k v.held → v.seen ≡ log
    pub lawful : Lawful k (whole k contents)
    pub told : (j : ℕ) (v : View V) → get_elem? s.views j ≡ some v → (t : ℕ) → t < 2 ^ k.s → (v.told ≤ (contents t).power) × (v.heard_told ≤ (contents t).power)
    pub callers_known : Callers callers log s.views
    pub traced : Traces (2 ^ k.s) callers s
    pub opened : ℕ
    pub contained : (t : ℕ) → t < 2 ^ k.s → content_in k.s opened s.trace t ≡ contents t
    pub decided : decided_in s.trace ≡ log
    pub legal : After log (bindings (whole k contents))
