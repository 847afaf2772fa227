-- Which stripes a set has.
use Rattle.std.specs.Prelude.{ℕ, List}
use Rattle.ck_words.specs.declared.stripe_set.StripeSet.{StripeSet}
use Rattle.ck_words.specs.StripeNumbers.{listed}

-- their numbers, in rising order
abbrev pub list_of : StripeSet → List ℕ
list_of x = listed x.first x.second x.rest x.count
