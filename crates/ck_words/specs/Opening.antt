-- A table as it is opened.
use Rattle.std.specs.Prelude.{ℕ, zero, suc, ◌-◌, ◌^◌, true, List, [], ◌∷◌, ◌++◌, Some}
use Rattle.ck_model.specs.declared.settings.Settings.{Settings}
use Rattle.ck_model.specs.Contents.{empty_content}
use Rattle.ck_stripe.specs.Stripe.{StripeState}
use Rattle.ck_words.specs.Rule.{StripeSlot}

module _ {V : Type 0} where
  -- stripe t, with nothing in it
  abbrev pub fresh : Settings → ℕ → StripeState V
  fresh set t = record { number = t; s = set.s; content = empty_content set.s set.power; settled = true; room = 2 ^ (set.power - set.s) }

  -- the slots of the first n stripes
  abbrev pub fresh_slots : Settings → ℕ → List (StripeSlot V)
  fresh_slots set zero = []
  fresh_slots set (suc n) = fresh_slots set n ++ Some (fresh set n) ∷ []
