use Rattle.std.proofs.Common.{◌∙◌, true, refl, arith}
use Rattle.ck_stripe.specs.Stripe.{StripeState}
use Rattle.ck_stripe.specs.Stripes.{no_stripe}
use Rattle.ck_stripe.proofs.Stepwise.{changed-long, changed-more, changed-done}
use Rattle.ck_stripe.proofs.several.settle_all.Goals as goal

-- it has no doubling left to carry out
abbrev settle : {V : Type 0} → StripeState V → StripeState V
settle t = record t { settled = true }

pub settle-requires : goal.settle-requires
settle-requires g c = let long = changed-long settle c.loop-i.i _ _ c.loop-i.invariant.settled in omega arith

pub loop-i-preserved : goal.loop-i-preserved
loop-i-preserved g c = record {
  stays = g.met.H.Held.stays_on _ _ _ c.loop-i.invariant.stays c.settle.ensures.stays;
  settled = c.settle.ensures.settled ∙ changed-more settle c.loop-i.i _ _ c.loop-i.invariant.settled no_stripe _ refl;
}

pub returns-clause-settled : goal.returns-clause-settled
returns-clause-settled g c = changed-done settle c.loop-i.i _ _ c.loop-i.invariant.settled (omega arith)
