use Rattle.std.proofs.Common.{◌≡◌, ◌<◌, inl, inr, List, None, IsSome, refl, sym, ◌∙◌, subst}
use Rattle.ck_model.specs.Slots.{slot_at, IsFull}
use Rattle.ck_stripe.specs.Stripe.{StripeState}
use Rattle.ck_stripe.specs.Stripes.{bucket_at}
use Rattle.ck_section.proofs.Steps.{none_anyway, reach_still}
use Rattle.ck_section.proofs.look.find_free.Goals as goal

pub free-requires : goal.free-requires
free-requires g c = record { reach = c.requires.first_reach }

pub returns-in-Some-clause-slot : goal.returns-in-Some-clause-slot
returns-in-Some-clause-slot g c = rw c.with_slot.ensures (record {
  reach = c.requires.first_reach;
  below = c.in-Some.ensures.below;
  of_name = inl c.requires.first;
})

pub returns-in-Some-clause-next : goal.returns-in-Some-clause-next
returns-in-Some-clause-next g c = rw c.with_slot.ensures (c.in-Some.ensures.found, c.in-Some.ensures.lowest, inl (refl, refl))

pub returns-then-alternate-first-clause-full : goal.returns-then-alternate-first-clause-full
returns-then-alternate-first-clause-full g c =
    let place = c.args.place in
    let stripes : List (StripeState g.row.V.Denot) = g.H.Held.stripes c.args.held.now in
    let first : IsFull (bucket_at stripes place.first.index place.first.bucket) = c.in_default.ensures.full in
    let one = sym c.if-alternate-first.true in
    record {
      first = first;
      alternate = subst (λ b. IsFull (bucket_at stripes place.alternate.index b)) one (subst (λ i. IsFull (bucket_at stripes i place.first.bucket)) (c.requires.one one) first);
    }

pub free-requires-2 : goal.free-requires-2
free-requires-2 g c = record {
  reach = reach_still (g.H.Held.stripes c.args.held.now) (g.H.Held.stripes c.free.new.held) c.free.ensures.same c.args.place.alternate.index c.args.place.alternate.bucket c.requires.alternate_reach;
}

pub returns-in_err-slot-clause-full : goal.returns-in_err-slot-clause-full
returns-in_err-slot-clause-full g c =
    let alternate = c.args.place.alternate in
    none_anyway c.from_residual.result _ (record {
      first = c.in_default.ensures.full;
      alternate = subst (λ (l : List (StripeState g.row.V.Denot)). IsFull (bucket_at l alternate.index alternate.bucket)) c.free.ensures.same c.in_err-slot.ensures.full;
    })

pub returns-in_err-slot-clause-same : goal.returns-in_err-slot-clause-same
returns-in_err-slot-clause-same g c = c.free-2.ensures.same ∙ c.free.ensures.same

pub returns-in_err-slot-clause-stays : goal.returns-in_err-slot-clause-stays
returns-in_err-slot-clause-stays g c = g.met.H.Held.stays_on _ _ _ c.free.ensures.stays c.free-2.ensures.stays

pub returns-clause-slot : goal.returns-clause-slot
returns-clause-slot g c = rw c.with_slot-2.ensures (record {
  reach = c.requires.alternate_reach;
  below = c.in_ok-slot.ensures.below;
  of_name = inr c.requires.alternate;
})

pub returns-clause-next : goal.returns-clause-next
returns-clause-next g c =
    let alternate = c.args.place.alternate in
    let slot = c.in_ok-slot.slot in rw c.with_slot-2.ensures (
      subst (λ (l : List (StripeState g.row.V.Denot)). slot_at (bucket_at l alternate.index alternate.bucket) slot ≡ None) c.free.ensures.same c.in_ok-slot.ensures.found,
      subst (λ (l : List (StripeState g.row.V.Denot)). (j : _) → j < slot → IsSome (slot_at (bucket_at l alternate.index alternate.bucket) j)) c.free.ensures.same c.in_ok-slot.ensures.lowest,
      inr (c.in_default.ensures.full, refl, refl),
    )

pub returns-clause-same : goal.returns-clause-same
returns-clause-same g c = c.free-2.ensures.same ∙ c.free.ensures.same

pub returns-clause-stays : goal.returns-clause-stays
returns-clause-stays g c = g.met.H.Held.stays_on _ _ _ c.free.ensures.stays c.free-2.ensures.stays
