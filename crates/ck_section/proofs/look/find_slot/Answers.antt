use Rattle.std.proofs.Common.{inl, inr, List, sym, ◌∙◌, subst}
use Rattle.ck_bucket.specs.Bucket.{HasName, LacksName}
use Rattle.ck_stripe.specs.Stripe.{StripeState}
use Rattle.ck_stripe.specs.Stripes.{bucket_at, IsInReach}
use Rattle.ck_section.proofs.Steps.{none_anyway}
use Rattle.ck_section.proofs.look.find_slot.Goals as goal

pub look-requires-clause-reach : goal.look-requires-clause-reach
look-requires-clause-reach g c = c.requires.first_reach

pub returns-in-Some-clause-occupied : goal.returns-in-Some-clause-occupied
returns-in-Some-clause-occupied g c = rw c.with_slot.ensures (record {
  slot = record { reach = c.requires.first_reach; below = c.in-Some.ensures.below; of_name = inl c.requires.first };
  found = c.in-Some.ensures.found;
})

pub returns-then-alternate-first-clause-nowhere : goal.returns-then-alternate-first-clause-nowhere
returns-then-alternate-first-clause-nowhere g c =
    let place = c.args.place in
    let stripes : List (StripeState g.row.V.Denot) = g.H.Held.stripes c.args.held.now in
    let name = g.Q.Query.name c.args.key in
    let first : LacksName (bucket_at stripes place.first.index place.first.bucket) name = c.in_default.ensures.absent in
    let one = sym c.if-alternate-first.true in
    record {
      first = first;
      alternate = subst (λ b. LacksName (bucket_at stripes place.alternate.index b) name) one
          (subst (λ i. LacksName (bucket_at stripes i place.first.bucket) name) (c.requires.one one) first);
    }

pub look-requires-2-clause-reach : goal.look-requires-2-clause-reach
look-requires-2-clause-reach g c =
    subst (λ (l : List (StripeState g.row.V.Denot)). IsInReach l c.args.place.alternate.index c.args.place.alternate.bucket) (sym c.look.ensures.same) c.requires.alternate_reach

pub returns-in_err-slot-clause-nowhere : goal.returns-in_err-slot-clause-nowhere
returns-in_err-slot-clause-nowhere g c =
    let alternate = c.args.place.alternate in
    none_anyway c.from_residual.result _ (record {
      first = c.in_default.ensures.absent;
      alternate = subst (λ (l : List (StripeState g.row.V.Denot)). LacksName (bucket_at l alternate.index alternate.bucket) (g.Q.Query.name c.args.key)) c.look.ensures.same c.in_err-slot.ensures.absent;
    })

pub returns-in_err-slot-clause-same : goal.returns-in_err-slot-clause-same
returns-in_err-slot-clause-same g c = c.look-2.ensures.same ∙ c.look.ensures.same

pub returns-in_err-slot-clause-stays : goal.returns-in_err-slot-clause-stays
returns-in_err-slot-clause-stays g c = g.met.H.Held.stays_on _ _ _ c.look.ensures.stays c.look-2.ensures.stays

pub returns-clause-occupied : goal.returns-clause-occupied
returns-clause-occupied g c =
    let alternate = c.args.place.alternate in
    rw c.with_slot-2.ensures (record {
      slot = record { reach = c.requires.alternate_reach; below = c.in_ok-slot.ensures.below; of_name = inr c.requires.alternate };
      found = subst (λ (l : List (StripeState g.row.V.Denot)). HasName (bucket_at l alternate.index alternate.bucket) (g.Q.Query.name c.args.key) c.in_ok-slot.slot) c.look.ensures.same c.in_ok-slot.ensures.found;
    })

pub returns-clause-same : goal.returns-clause-same
returns-clause-same g c = c.look-2.ensures.same ∙ c.look.ensures.same

pub returns-clause-stays : goal.returns-clause-stays
returns-clause-stays g c = g.met.H.Held.stays_on _ _ _ c.look.ensures.stays c.look-2.ensures.stays
