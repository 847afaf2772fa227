use Rattle.std.proofs.Common.{◌≡◌, ◌<◌, ◌∙◌, List, ap, length, refl, arith}
use Rattle.ck_stripe.specs.Stripe.{StripeState, shrunk}
use Rattle.ck_stripe.specs.Stripes.{no_stripe, stripe_at}
use Rattle.ck_stripe.proofs.Stepwise.{changed-long, changed-read, changed-more, changed-done}
use Rattle.ck_section.proofs.double.shrink_all.Goals as goal

pub shrink_to_fit-requires : goal.shrink_to_fit-requires
shrink_to_fit-requires g c =
    let stripes : List (StripeState g.row.V.Denot) = g.H.Held.stripes c.args.held.now in
    let i = c.loop-t.t in
    let inside : i < length stripes = omega arith in
    let long = changed-long shrunk i stripes _ c.loop-t.invariant.shrunk in
    let same : stripe_at (g.H.Held.stripes c.loop-t.held) i ≡ stripe_at stripes i = changed-read shrunk i stripes _ c.loop-t.invariant.shrunk no_stripe no_stripe inside in
    record { inside = omega arith; settled = ap (λ (t : StripeState g.row.V.Denot). t.settled) same ∙ c.requires i inside }

pub loop-t-preserved : goal.loop-t-preserved
loop-t-preserved g c = record {
  stays = g.met.H.Held.stays_on _ _ _ c.loop-t.invariant.stays c.shrink_to_fit.ensures.stays;
  shrunk = c.shrink_to_fit.ensures.shrunk ∙ changed-more shrunk c.loop-t.t _ _ c.loop-t.invariant.shrunk no_stripe _ refl;
}

pub returns-clause-shrunk : goal.returns-clause-shrunk
returns-clause-shrunk g c = changed-done shrunk c.loop-t.t _ _ c.loop-t.invariant.shrunk (omega arith)
