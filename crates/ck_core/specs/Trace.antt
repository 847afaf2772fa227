-- The trace: the steps of all callers on the lock words, in their order.
use Rattle.std.specs.Prelude.{◌≡◌, ◌≢◌, ℕ, List, [], ◌∷◌, ◌++◌, Option, Some, None, if◌then◌else◌, ◌==◌, filter, fold, flat_map}
use Rattle.ck_model.specs.declared.history.Entry.{Entry}
use Rattle.ck_model.specs.Contents.{Stripes}
use Rattle.ck_core.specs.declared.trace.LockStep.{LockStep}
use Rattle.ck_core.specs.declared.trace.LockStep.TheVariants.{Took, Missed, Gave, Decided}
use Rattle.ck_core.specs.declared.trace.LockEvent.{LockEvent}

module _ {V : Type 0} where
  -- who holds a stripe after a step of the caller m on its word, where h did before it
  abbrev pub held_after : LockStep V → ℕ → Option ℕ → Option ℕ
  held_after Took m h = Some m
  held_after Missed m h = h
  held_after step m h = None

  -- who holds stripe t after the trace
  abbrev pub holder : List (LockEvent V) → ℕ → Option ℕ
  holder es t = fold (λ h e. if e.stripe == t then held_after e.step e.by h else h) None es

  -- A stripe is taken while nobody holds it, missed while another than the caller m does, and given back by its holder, which decides only its own calls.
  abbrev pub Fits : LockStep V → ℕ → Option ℕ → Type 0
  Fits step m h =
      (step ≡ Took → h ≡ None)
      × (step ≡ Missed → (h ≢ None) × (h ≢ Some m))
      × ((ks : Stripes V) → step ≡ Gave ks → h ≡ Some m)
      × ((x : Entry V) (ks : Stripes V) → step ≡ Decided x ks → (h ≡ Some m) × (x.by ≡ m))

  -- each step fits what those before it left
  abbrev pub IsLegalTrace : List (LockEvent V) → Type 0
  IsLegalTrace es = (before : List (LockEvent V)) (e : LockEvent V) (more : List (LockEvent V)) → es ≡ before ++ e ∷ more → Fits e.step e.by (holder before e.stripe)

  -- the entry that was decided by this step, if one was
  abbrev pub decided_by : LockStep V → List (Entry V)
  decided_by (Decided x ks) = x ∷ []
  decided_by step = []

  -- the entries that were decided, in their order: the history
  abbrev pub decided_in : List (LockEvent V) → List (Entry V)
  decided_in es = flat_map (λ e. decided_by e.step) es

  -- the steps of the caller m, in their order
  abbrev pub steps_of : ℕ → List (LockEvent V) → List (LockEvent V)
  steps_of m es = filter (λ e. e.by == m) es

  -- the stripe that was missed by this step, if it was one
  abbrev pub missed_by : LockStep V → ℕ → List ℕ
  missed_by Missed t = t ∷ []
  missed_by step t = []

  -- the stripes that were missed by these steps, the last first
  abbrev pub missed_in : List (LockEvent V) → List ℕ
  missed_in [] = []
  missed_in (e ∷ es) = missed_in es ++ missed_by e.step e.stripe
