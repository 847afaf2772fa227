-- Which stripes a guard has.
use Rattle.std.proofs.Common.{◌≡◌, Bool, true, false, if◌then◌else◌, ℕ, ◌<◌, List, [], length, ap, ◌∙◌, sym, arith}
use Rattle.ck_stripe.specs.Stripe.{StripeState}
use Rattle.ck_words.specs.Passes.{numbers_of}
use Rattle.ck_words.proofs.Seating.{length-numbers}

module _ {V : Type 0} where
  -- those of its set, while it is locked
  pub its_numbers : {b : Bool} {ns : List ℕ} (ss : List (StripeState V)) → numbers_of ss ≡ (if b then ns else []) → b ≡ true → numbers_of ss ≡ ns
  its_numbers {b} {ns} ss numbered locked = numbered ∙ ap (λ (x : Bool). if x then ns else []) locked

  -- and where it has one
  pub numbers_with : (b : Bool) (ns : List ℕ) (ss : List (StripeState V)) → numbers_of ss ≡ (if b then ns else []) → (i : ℕ) → i < length ss → numbers_of ss ≡ ns
  numbers_with true ns ss numbered i inside = numbered
  numbers_with false ns ss numbered i inside = let none : 0 ≡ length ss = sym (ap length numbered) ∙ length-numbers ss in absurd (omega arith)
