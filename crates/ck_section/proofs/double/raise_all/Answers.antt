use Rattle.std.proofs.Common.{◌≡◌, ◌<◌, ◌∙◌, List, ap, length, sym, refl, subst, arith}
use Rattle.ck_stripe.specs.Stripe.{StripeState, IsReserved}
use Rattle.ck_stripe.specs.Stripes.{no_stripe, stripe_at, doubled}
use Rattle.ck_stripe.proofs.Stepwise.{changed-long, changed-read, changed-more, changed-done}
use Rattle.ck_section.proofs.double.raise_all.Goals as goal

pub double-requires : goal.double-requires
double-requires g c =
    let stripes : List (StripeState g.row.V.Denot) = g.H.Held.stripes c.args.held.now in
    let i = c.loop-t.t in
    let inside : i < length stripes = omega (arith, c.requires.count) in
    let long = changed-long (doubled g.K.TableKey.hash) i stripes _ c.loop-t.invariant.doubled in
    let same : stripe_at (g.H.Held.stripes c.loop-t.held) i ≡ stripe_at stripes i = changed-read (doubled g.K.TableKey.hash) i stripes _ c.loop-t.invariant.doubled no_stripe no_stripe inside in
    record {
      inside = omega (arith, c.requires.count);
      settled = ap (λ (t : StripeState g.row.V.Denot). t.settled) same ∙ c.requires.settled i inside;
      reserved = subst IsReserved (sym same) (c.requires.reserved i inside);
      power = subst (λ (t : StripeState g.row.V.Denot). t.content.power < 26) (sym same) (c.requires.below i (omega arith));
    }

pub loop-t-preserved : goal.loop-t-preserved
loop-t-preserved g c = record {
  stays = g.met.H.Held.stays_on _ _ _ c.loop-t.invariant.stays c.double.ensures.stays;
  doubled = c.double.ensures.doubled ∙ changed-more (doubled g.K.TableKey.hash) c.loop-t.t _ _ c.loop-t.invariant.doubled no_stripe _ refl;
}

pub returns-clause-doubled : goal.returns-clause-doubled
returns-clause-doubled g c = changed-done (doubled g.K.TableKey.hash) c.loop-t.t _ _ c.loop-t.invariant.doubled (omega (arith, c.requires.count))
