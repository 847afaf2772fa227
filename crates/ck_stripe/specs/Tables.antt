-- Stripes of one table: some that are held, or all.
use Rattle.std.specs.Prelude.{◌≡◌, ℕ, true, ◌^◌, ◌<◌, ◌≤◌, List, length}
use Rattle.ck_model.specs.Contents.{Layout, Lawful}
use Rattle.ck_model.specs.Sections.{IdentitySection}
use Rattle.ck_stripe.specs.Stripe.{StripeState}
use Rattle.ck_stripe.specs.Stripes.{stripe_at, contents_of, HaveNoSpare}

module _ {V : Type 0} where
  -- Settled stripes of one table of 2^s stripes, of one power, in rising order of their numbers, with no memory to spare.
  pub record AreHeld (s : ℕ) (stripes : List (StripeState V)) : Type 0 where
    pub some : 0 < length stripes
    pub many : s ≤ 10
    pub one_s : (i : ℕ) → i < length stripes → (stripe_at stripes i).s ≡ s
    pub settled : (i : ℕ) → i < length stripes → (stripe_at stripes i).settled ≡ true
    pub one_power : (i : ℕ) → i < length stripes → (stripe_at stripes i).content.power ≡ (stripe_at stripes 0).content.power
    pub least : s ≤ (stripe_at stripes 0).content.power
    pub most : (stripe_at stripes 0).content.power ≤ 26
    pub no_spare : HaveNoSpare stripes
    pub rising : (i j : ℕ) → i < j → j < length stripes → (stripe_at stripes i).number < (stripe_at stripes j).number

  -- the stripe of this number is held
  abbrev pub HasStripe : List (StripeState V) → ℕ → Type 0
  HasStripe stripes t = (i : ℕ) × (i < length stripes) × ((stripe_at stripes i).number ≡ t)

  -- The 2^s stripes of a table in the order of their numbers, of one power, settled or not, with no memory to spare.
  pub record IsTable (s : ℕ) (stripes : List (StripeState V)) : Type 0 where
    pub many : s ≤ 10
    pub count : length stripes ≡ 2 ^ s
    pub number : (i : ℕ) → i < length stripes → (stripe_at stripes i).number ≡ i
    pub one_s : (i : ℕ) → i < length stripes → (stripe_at stripes i).s ≡ s
    pub one_power : (i : ℕ) → i < length stripes → (stripe_at stripes i).content.power ≡ (stripe_at stripes 0).content.power
    pub least : s ≤ (stripe_at stripes 0).content.power
    pub most : (stripe_at stripes 0).content.power ≤ 26
    pub no_spare : HaveNoSpare stripes

  -- no doubling is left to be carried out
  abbrev pub AreSettled : List (StripeState V) → Type 0
  AreSettled stripes = (i : ℕ) → i < length stripes → (stripe_at stripes i).settled ≡ true

  -- All stripes of a table, with no doubling left to carry out.
  pub record AreAllHeld (s : ℕ) (stripes : List (StripeState V)) : Type 0 where
    pub table : IsTable s stripes
    pub settled : AreSettled stripes

  -- the power of stripes that have one
  abbrev pub power_in : List (StripeState V) → ℕ
  power_in stripes = (stripe_at stripes 0).content.power

  -- Lawful stripes go from old to new by no call.
  abbrev pub KeepsBindings : Layout → List (StripeState V) → List (StripeState V) → Type 0
  KeepsBindings k old new = Lawful k (contents_of old) → IdentitySection k (contents_of old) (contents_of new)
