-- What contracts see of a pass.
use Rattle.std.specs.Prelude.{◌≡◌, ◌≢◌, ℕ, zero, suc, ◌<◌, ◌≤◌, ◌^◌, List, [], ◌∷◌, ◌++◌, map, reverse, Bool, MatchBool, Some, None}
use Rattle.atomic_table.specs.Seated.{TableId}
use Rattle.atomic_table.specs.Table.{turned}
use Rattle.ck_model.specs.declared.settings.Settings.{Settings}
use Rattle.ck_model.specs.Promise.{Name}
use Rattle.ck_model.specs.Numbered.{numbers}
use Rattle.ck_model.specs.Contents.{layout_of, Stripes}
use Rattle.ck_stripe.specs.Stripe.{StripeState}
use Rattle.ck_stripe.specs.Stripes.{contents_of, HaveNoSpare}
use Rattle.ck_core.specs.declared.view.View.{View}
use Rattle.ck_core.specs.State.{found_held}
use Rattle.ck_core.specs.Steps.{Label, IsAbove}
use Rattle.ck_core.specs.Steps.Label.{Take, FindHeld, Look}
use Rattle.ck_core.specs.Laws.{Shows, HasWatched}
use Rattle.ck_words.specs.Rule.{StripeSlot, Hand, IsAtHome}
use Rattle.ck_words.specs.Steps.{Steps}
use Rattle.ck_words.specs.Plays.{stripe_in}
use Rattle.ck_words.specs.Words.{WordsState}

-- each number is above those that follow
abbrev pub Falls : List ℕ → Type 0
Falls [] = Unit {0}
Falls (n ∷ ns) = IsAbove n ns × Falls ns

-- the first n go behind the others
abbrev pub rotated : {A : Type 0} → ℕ → List (ℕ × A) → List (ℕ × A)
rotated zero l = l
rotated (suc n) l = turned (rotated n l)

-- Which table it is a pass of, what its caller knows, and the stripes that it holds, in rising order of their numbers.
pub record PassState (V : Type 0) : Type 0 where
  pub table : TableId
  pub view : View V
  pub stripes : List (StripeState V)

module _ {V : Type 0} where
  abbrev pub stripes_in : List (ℕ × StripeSlot V) → List (StripeState V)
  stripes_in = map stripe_in

  -- the slot with this stripe
  abbrev pub slot_of : StripeState V → ℕ × StripeSlot V
  slot_of stripe = (stripe.number, Some stripe)

  abbrev pub numbers_of : List (StripeState V) → List ℕ
  numbers_of stripes = map (λ (stripe : StripeState V). stripe.number) stripes

  -- each is a stripe of a table of 2^s
  abbrev pub EachOf : ℕ → List (StripeState V) → Type 0
  EachOf s [] = Unit {0}
  EachOf s (stripe ∷ stripes) = (stripe.s ≡ s) × EachOf s stripes

  -- the last of these stripes has this number
  abbrev pub IsHighest : ℕ → List (StripeState V) → Type 0
  IsHighest t stripes = (others : List ℕ) × (numbers_of stripes ≡ others ++ t ∷ [])

  -- The slots have the stripes of their numbers, the one that was taken last first. Each is above those behind it, and the view tells of them.
  pub record IsSeated (table : TableId) (me : Hand V) : Type 0 where
    pub full : me.1 ≡ map slot_of (stripes_in me.1)
    pub held : numbers me.0.held ≡ numbers_of (stripes_in me.1)
    pub falls : Falls (numbers me.0.held)
    pub below : IsAbove table.slots (numbers me.0.held)
    pub one_s : EachOf me.0.settings.s (stripes_in me.1)

  -- the seat of a pass, and a list that is empty and has room for all stripes of the table
  pub record IsReady (table : TableId) (me : Hand V) (list : List (StripeState V)) (capacity : ℕ) : Type 0 where
    pub seated : IsSeated table me
    pub empty : list ≡ []
    pub room : table.slots ≤ capacity

  -- the stripes in a seat's slots, in rising order
  abbrev pub held_in : List (ℕ × StripeSlot V) → List (StripeState V)
  held_in slots = reverse (stripes_in slots)

  -- what contracts see of a seat
  abbrev pub state_of : TableId → Hand V → PassState V
  state_of table me = record { table = table; view = me.0; stripes = held_in me.1 }

  -- A pass of this table, of a caller. The only caller has found no stripe held. It was told a power that the table may have.
  abbrev pub IsPassIn : WordsState → PassState V → Type 0
  IsPassIn w p = (p.table ≡ w.table) × (p.view.settings ≡ w.settings) × (p.view.by ≢ None) × (w.settings.callers ≡ 1 → found_held p.view ≡ []) × (w.settings.power ≤ p.view.told) × (p.view.told ≤ w.settings.max)

  -- and its caller has watched a legal trace, in which it missed what it found held by its own steps
  abbrev pub IsPassOf : WordsState → PassState V → Type 0
  IsPassOf w p = (p.table ≡ w.table) × (p.view.settings ≡ w.settings) × (p.view.by ≢ None) × (w.settings.callers ≡ 1 → found_held p.view ≡ []) × (w.settings.power ≤ p.view.told) × (p.view.told ≤ w.settings.max) × HasWatched p.view

  -- the stripes contain what the view tells of them
  abbrev pub IsUnchanged : PassState V → Type 0
  IsUnchanged p = contents_of p.stripes ≡ reverse p.view.held

  -- it holds no stripe
  abbrev pub IsIdle : PassState V → Type 0
  IsIdle p = (p.stripes ≡ []) × (p.view.held ≡ [])

  -- The pass may take the stripe t of this table, which is above all that it holds unchanged.
  pub record MayTake (w : WordsState) (t : ℕ) (p : PassState V) : Type 0 where
    pub own : IsPassOf w p
    pub inside : t < 2 ^ w.settings.s
    pub above : IsAbove t (numbers p.view.held)
    pub unchanged : IsUnchanged p

  -- The pass of this table holds the stripe t, the highest of its stripes, and these have no memory to spare.
  pub record MayGive (w : WordsState) (t : ℕ) (p : PassState V) : Type 0 where
    pub own : IsPassOf w p
    pub highest : IsHighest t p.stripes
    pub no_spare : HaveNoSpare p.stripes

  -- what the view shows, with the history that it has seen
  abbrev pub ShowsSeen : (Name → ℕ) → Settings → PassState V → Type 0
  ShowsSeen hash set p = Shows (layout_of hash set) set.callers p.view.seen p.view

  -- It took the stripe t, which stands behind the others, with no memory to spare.
  abbrev pub TakesStripe : (Name → ℕ) → Settings → ℕ → PassState V → PassState V → Type 0
  TakesStripe hash set t p q = (stripe : StripeState V) × IsAtHome set.s t stripe × (q.stripes ≡ p.stripes ++ stripe ∷ []) × Steps hash set (Take t) p.view q.view

  -- It took the stripe t, or found it held.
  abbrev pub TriesStripe : (Name → ℕ) → WordsState → ℕ → Bool → PassState V → PassState V → Type 0
  TriesStripe hash w t taken p q = MatchBool taken (TakesStripe hash w.settings t p q) ((q.stripes ≡ p.stripes) × Steps hash w.settings (FindHeld t) p.view q.view)

  -- Its highest stripe went home, by the step for its number and for what the stripes contained.
  abbrev pub Sends : (Name → ℕ) → WordsState → (ℕ → Stripes V → Label V) → PassState V → PassState V → Type 0
  Sends hash w move p q = (stripe : StripeState V) × (p.stripes ≡ q.stripes ++ stripe ∷ []) × Steps hash w.settings (move stripe.number (reverse (contents_of p.stripes))) p.view q.view

  -- It looked, and was told no power below the one that it had heard.
  abbrev pub LooksUp : (Name → ℕ) → WordsState → PassState V → PassState V → Type 0
  LooksUp hash w p q = (q.stripes ≡ p.stripes) × ((power : ℕ) × (p.view.heard_told ≤ power) × Steps hash w.settings (Look 0 power) p.view q.view)
