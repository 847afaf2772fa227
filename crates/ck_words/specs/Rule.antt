-- The core's invariant as the rule of a table of words and slots.
use Rattle.std.specs.Prelude.{◌≡◌, ℕ, zero, suc, pred, ◌*◌, ◌^◌, List, [], ◌∷◌, map, drop, length, slice_index, Option, Some, None}
use mathlib.Core.Option.{none, some}
use mathlib.Core.Option as maybe
use lib.ListN.{get_elem?}
use Rattle.atomic_table.specs.Table.{State, Me}
use Rattle.ck_model.specs.declared.history.Entry.{Entry}
use Rattle.ck_model.specs.declared.settings.Settings.{Settings}
use Rattle.ck_model.specs.declared.contents.Content.{Content}
use Rattle.ck_model.specs.Promise.{Name}
use Rattle.ck_model.specs.Counting.{counting}
use Rattle.ck_model.specs.Contents.{Layout, layout_of}
use Rattle.ck_stripe.specs.Stripe.{StripeState, HasNoSpare}
use Rattle.ck_core.specs.declared.trace.LockEvent.{LockEvent}
use Rattle.ck_core.specs.declared.view.View.{View}
use Rattle.ck_core.specs.State.{Configuration, HistoryInvariant}
use Rattle.ck_core.specs.Steps.{initial_view}

-- what a slot contains
abbrev pub StripeSlot : Type 0 → Type 0
StripeSlot V = Option (StripeState V)

-- a seat's view, and the slots that it holds
abbrev pub Hand : Type 0 → Type 0
Hand V = Me (StripeSlot V) (View V)

-- The words of n stripes. They stand 64 bytes apart, so that no two are in one line of a cache, and the seven words between two of them are never written.
abbrev pub spaced : ℕ → List ℕ → List ℕ
spaced zero words = []
spaced (suc n) words = slice_index words 0 ∷ spaced n (drop 8 words)

-- the first caller keeps the numbers of the others
abbrev pub first_view : {V : Type 0} → Settings → View V
first_view set = initial_view set 0 set.power (counting 1 (pred set.callers))

module _ {V : Type 0} where
  -- the content of the stripe that lies in a slot, where one does
  abbrev pub lying : maybe.Option (StripeSlot V) → Option (Content V)
  lying none = None
  lying (some None) = None
  lying (some (Some stripe)) = Some stripe.content

  abbrev pub world : ℕ → List (LockEvent V) → State (StripeSlot V) (View V) → Configuration V
  world n trace s = record { words = spaced n s.words; homes = map lying s.homes; views = s.views; trace = trace }

  -- stripe t of 2^s as it lies in its slot: with memory for its rows, and for none besides
  abbrev pub IsAtHome : ℕ → ℕ → StripeState V → Type 0
  IsAtHome s t stripe = (stripe.number ≡ t) × (stripe.s ≡ s) × HasNoSpare stripe

  -- The invariant of the core with this history and some trace; eight words for each stripe; and each slot has the stripe of its number, with no memory to spare.
  pub record IsKept (k : Layout) (callers : ℕ) (log : List (Entry V)) (s : State (StripeSlot V) (View V)) : Type 0 where
    pub trace : List (LockEvent V)
    pub law : HistoryInvariant k callers log (world (2 ^ k.s) trace s)
    pub words_sized : length s.words ≡ 2 ^ k.s * 8
    pub at_home : (t : ℕ) (stripe : StripeState V) → get_elem? s.homes t ≡ some (some (Some stripe)) → IsAtHome k.s t stripe

  -- there is a history with which the invariant holds
  abbrev pub Rule : Layout → ℕ → State (StripeSlot V) (View V) → Type 0
  Rule k callers s = (log : List (Entry V)) × IsKept k callers log s

  abbrev pub RuleOf : (Name → ℕ) → Settings → State (StripeSlot V) (View V) → Type 0
  RuleOf hash set = Rule (layout_of hash set) set.callers
