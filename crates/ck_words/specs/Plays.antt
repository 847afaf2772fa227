-- What each step on a word tells.
use Rattle.std.specs.Prelude.{◌≡◌, ◌≢◌, ℕ, ◌≤◌, List, [], ◌∷◌, drop, Some, None}
use Rattle.std.specs.Option.{unwrap_or}
use Rattle.atomic_table.specs.Table.{rest}
use Rattle.ck_model.specs.declared.history.Entry.{Entry}
use Rattle.ck_model.specs.declared.history.Call.TheVariants.{Len}
use Rattle.ck_model.specs.declared.history.Reply.TheVariants.{Closed}
use Rattle.ck_model.specs.declared.settings.Settings.{Settings}
use Rattle.ck_model.specs.Promise.{Name}
use Rattle.ck_model.specs.Numbered.{Holds}
use Rattle.ck_model.specs.Contents.{Stripes}
use Rattle.ck_stripe.specs.Stripe.{StripeState}
use Rattle.ck_stripe.specs.Stripes.{no_stripe}
use Rattle.ck_core.specs.declared.view.View.{View}
use Rattle.ck_core.specs.Steps.{Label, beginner}
use Rattle.ck_core.specs.Steps.Label.{Take, FindHeld, Look}
use Rattle.ck_words.specs.Rule.{StripeSlot, Hand, IsAtHome}
use Rattle.ck_words.specs.Steps.{Steps}

-- what stands where no entry was picked
abbrev pub no_entry : {V : Type 0} → Entry V
no_entry = record { by = 0; call = Len; reply = Closed }

module _ {V : Type 0} where
  -- the stripe of a slot that is full
  abbrev pub stripe_in : ℕ × StripeSlot V → StripeState V
  stripe_in x = unwrap_or x.1 no_stripe

  -- the contents of the stripes in these slots, in their order
  abbrev pub contents_in : List (ℕ × StripeSlot V) → Stripes V
  contents_in [] = []
  contents_in ((t, Some stripe) ∷ xs) = (t, stripe.content) ∷ contents_in xs
  contents_in ((t, None) ∷ xs) = contents_in xs

  -- The seat took the stripe t, which it has first then, with no memory to spare, or found it held.
  abbrev pub SeatTries : (Name → ℕ) → Settings → ℕ → Hand V → ℕ → Hand V → Type 0
  SeatTries hash set t m r m2 =
      (r ≡ 0 → (stripe : StripeState V) × IsAtHome set.s t stripe × (m2.1 ≡ (t, Some stripe) ∷ m.1) × Holds m2.0.held t stripe.content × Steps hash set (Take t) m.0 m2.0)
      × (r ≢ 0 → (m2.1 ≡ m.1) × Steps hash set (FindHeld t) m.0 m2.0)

  -- the stripe that the seat had first went home by this step
  abbrev pub SeatGives : (Name → ℕ) → Settings → Label V → Hand V → Hand V → Type 0
  SeatGives hash set move m m2 = (m2.1 ≡ rest m.1) × Steps hash set move m.0 m2.0

  -- the seat looked at the word of stripe t, and was told no power below the one that it had heard
  abbrev pub SeatLooks : (Name → ℕ) → Settings → ℕ → Hand V → Hand V → Type 0
  SeatLooks hash set t m m2 = (m2.1 ≡ m.1) × ((power : ℕ) × (m.0.heard_told ≤ power) × Steps hash set (Look t power) m.0 m2.0)

  -- the view without the first of the numbers that it keeps
  abbrev pub opened : View V → View V
  opened v = record v { others = drop 1 v.others }

  -- the first of the numbers that are kept
  abbrev pub first_kept : List (ℕ × List (Entry V)) → ℕ
  first_kept [] = 0
  first_kept (x ∷ xs) = x.0

  -- a caller that begins with the first of the numbers that the view keeps
  abbrev pub begun : View V → View V
  begun v = beginner v (first_kept v.others)
