-- What is left of a table whose keys are all unbound.
use Rattle.std.specs.Prelude.{◌≡◌, List}
use Rattle.std.specs.FinMap.{empty}
use Rattle.ck_model.specs.Contents.{Layout, Lawful, bindings}
use Rattle.ck_model.specs.Sections.{Renewed}
use Rattle.ck_stripe.specs.Stripe.{StripeState}
use Rattle.ck_stripe.specs.Stripes.{contents_of}

module _ {V : Type 0} where
  -- Lawful stripes go from old to new, and bind no name any more.
  abbrev pub ClearsBindings : Layout → List (StripeState V) → List (StripeState V) → Type 0
  ClearsBindings k old new = Lawful k (contents_of old) → Renewed k (contents_of old) (contents_of new) × (bindings (contents_of new) ≡ empty)
