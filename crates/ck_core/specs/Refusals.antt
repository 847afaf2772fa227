-- Steps that aren't allowed in the states of the example, and what the allowed ones leave.
use Rattle.std.specs.Prelude.{◌≡◌, ℕ, List, [], ◌∷◌, Some}
use mathlib.Core.Option.{some}
use lib.ListN.{get_elem?}
use Rattle.ck_model.specs.declared.history.Entry.{Entry}
use Rattle.ck_model.specs.declared.contents.Content.{Content}
use Rattle.ck_core.specs.declared.view.View.{View}
use Rattle.ck_core.specs.State.{Configuration}
use Rattle.ck_core.specs.Steps.{Label, Transition, Execution, initial_view, message_of}
use Rattle.ck_core.specs.Example.{two_stripes, settings, empty_stripe, first, second, watched, start, one_held}

-- the steps lead from the opening to s, with this history
abbrev pub Reaches : List (ℕ × Label ℕ) → List (Entry ℕ) → Configuration ℕ → Type 0
Reaches ms log s = Execution two_stripes 0 [] start ms log s

-- in the state s, with this history, the caller may not go by this step to any state
abbrev pub IsForbidden : List (Entry ℕ) → Configuration ℕ → ℕ → Label ℕ → Type 0
IsForbidden log s id m = (min_load : ℕ) (s2 : Configuration ℕ) → ¬ (Transition two_stripes min_load log id m s s2)

-- wherever the caller goes from s by this step, the stripe t is at home there with the content c
abbrev pub LeavesHome : List (Entry ℕ) → Configuration ℕ → ℕ → Label ℕ → ℕ → Content ℕ → Type 0
LeavesHome log s id m t c = (min_load : ℕ) (s2 : Configuration ℕ) → Transition two_stripes min_load log id m s s2 → get_elem? s2.homes t ≡ some (Some c)

-- wherever the caller goes from s by this step, P holds there of the view j
abbrev pub LeavesView : List (Entry ℕ) → Configuration ℕ → ℕ → Label ℕ → ℕ → (View ℕ → Type 0) → Type 0
LeavesView log s id m j P = (min_load : ℕ) (s2 : Configuration ℕ) (w : View ℕ) → Transition two_stripes min_load log id m s s2 → get_elem? s2.views j ≡ some w → P w

-- the opening, after the first caller told what it has seen
abbrev pub one_told : Configuration ℕ
one_told = record start { views = first ∷ second ∷ message_of first ∷ [] }

-- and took stripe 0
abbrev pub told_and_held : Configuration ℕ
told_and_held = record one_held { views = watched 1 (record first { held = (0, empty_stripe) ∷ [] }) ∷ second ∷ message_of first ∷ [] }

-- the opening, but that both callers have the number 0
abbrev pub one_number : Configuration ℕ
one_number = record start { views = first ∷ first ∷ [] }

-- the opening, but that the first caller keeps the number that the second has
abbrev pub one_kept : Configuration ℕ
one_kept = record start { views = initial_view settings 0 1 (1 ∷ []) ∷ second ∷ [] }
