use Rattle.std.proofs.Common.{◌≡◌, ◌<◌, ◌∙◌, List, ap, length, refl, arith}
use Rattle.ck_stripe.specs.Stripe.{StripeState, reserved}
use Rattle.ck_stripe.specs.Stripes.{no_stripe, stripe_at}
use Rattle.ck_stripe.proofs.Stepwise.{changed-long, changed-read, changed-more, changed-done}
use Rattle.ck_section.proofs.Table.{settled_partly, given_back}
use Rattle.ck_section.proofs.double.reserve_all.Goals as goal

pub reserve_double-requires : goal.reserve_double-requires
reserve_double-requires g c =
    let stripes : List (StripeState g.row.V.Denot) = g.H.Held.stripes c.args.held.now in
    let i = c.loop-i.i in
    let inside : i < length stripes = omega (arith, c.requires.count) in
    let long = changed-long reserved i stripes _ c.loop-i.invariant.reserved in
    let same : stripe_at (g.H.Held.stripes c.loop-i.held) i ≡ stripe_at stripes i = changed-read reserved i stripes _ c.loop-i.invariant.reserved no_stripe no_stripe inside in
    record { inside = omega arith; settled = ap (λ (t : StripeState g.row.V.Denot). t.settled) same ∙ c.requires.settled i inside }

pub shrink_all-requires : goal.shrink_all-requires
shrink_all-requires g c = settled_partly c.loop-i.i _ _ (c.in-Err.ensures.kept ∙ c.loop-i.invariant.reserved) c.requires.settled

pub returns-in-Err-clause-kept : goal.returns-in-Err-clause-kept
returns-in-Err-clause-kept g c = c.shrink_all.ensures.shrunk ∙ given_back c.loop-i.i _ _ (c.in-Err.ensures.kept ∙ c.loop-i.invariant.reserved) c.requires.no_spare

pub loop-i-preserved : goal.loop-i-preserved
loop-i-preserved g c = record {
  stays = g.met.H.Held.stays_on _ _ _ c.loop-i.invariant.stays c.reserve_double.ensures.stays;
  reserved = c.in_default.ensures.ok ∙ changed-more reserved c.loop-i.i _ _ c.loop-i.invariant.reserved no_stripe _ refl;
}

pub returns-clause-reserved : goal.returns-clause-reserved
returns-clause-reserved g c = changed-done reserved c.loop-i.i _ _ c.loop-i.invariant.reserved (omega (arith, c.requires.count))
