-- The first of some stripes, and those behind it.
use Rattle.std.proofs.Common.{◌≡◌, suc, List, ◌∷◌, ◌++◌, ap, subst, arith}
use Rattle.ck_model.specs.Contents.{pairs_in, pairs_of}
use Rattle.ck_stripe.specs.Stripe.{StripeState}
use Rattle.ck_stripe.specs.Stripes.{contents_of}
use Rattle.ck_stripe.specs.Tables.{AreSettled}

module _ {V : Type 0} {stripes rest : List (StripeState V)} {first : StripeState V} (is : stripes ≡ first ∷ rest) where
  pub rest_settled : AreSettled stripes → AreSettled rest
  rest_settled settled i lt = subst AreSettled is settled (suc i) (omega arith)

  pub pairs_first : pairs_of (contents_of stripes) ≡ pairs_in first.content ++ pairs_of (contents_of rest)
  pairs_first = ap (λ (l : List (StripeState V)). pairs_of (contents_of l)) is
