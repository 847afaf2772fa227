use Rattle.std.proofs.Common.{inl, inr, ◌≡◌, List, length, arith}
use Rattle.ck_model.specs.Contents.{pairs_of}
use Rattle.ck_stripe.specs.Stripe.{StripeState}
use Rattle.ck_stripe.specs.Stripes.{contents_of}
use Rattle.ck_stripe.proofs.Totals.{counts_all}
use Rattle.ck_stripe.proofs.several.len.Given.{Over}
use Rattle.ck_stripe.proofs.several.len.Goals as goal

-- no table has as many entries as would be enough
counted : (g : Over) (c : goal.After-count g) → c.count.result ≡ length (pairs_of (contents_of (g.H.Held.stripes c.args.held.now)))
counted g c = elim c.count.ensures.value [
  | inl all ↦ all
  | inr some ↦ absurd (omega (arith, some.0, c.count.ensures.few))
]

pub returns-clause-value : goal.returns-clause-value
returns-clause-value g c = counted g c

pub returns-clause-call : goal.returns-clause-call
returns-clause-call g c max lawful =
    let stripes : List (StripeState g.row.V.Denot) = g.H.Held.stripes c.args.held.now in
    counts_all g.K.TableKey.hash c.args.s max stripes _ _ c.requires c.count.ensures.same (counted g c) lawful
