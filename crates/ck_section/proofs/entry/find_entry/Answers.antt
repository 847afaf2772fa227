use Rattle.std.proofs.Common.{◌≡◌, ℕ, refl, List, subst}
use Rattle.ck_model.specs.Promise.{Name}
use Rattle.ck_stripe.specs.Stripe.{StripeState}
use Rattle.ck_section.specs.declared.place.KeyPlace.{KeyPlace}
use Rattle.ck_stripe.specs.declared.held_slot.HeldSlot.{HeldSlot}
use Rattle.ck_section.specs.Places.{IsSlotOf, IsNowhere, IsNext, AreFull}
use Rattle.ck_section.specs.Entries.{IsVacant}
use Rattle.ck_section.proofs.Steps.{none_anyway, bound_with_room, with_room, without_room}
use Rattle.ck_section.proofs.entry.find_entry.Goals as goal

-- what was found in stripes that are as they were
vacant_there : {V : Type 0} (hash : Name → ℕ) (stripes cur : List (StripeState V)) (q : Name) (place : KeyPlace) → cur ≡ stripes → (at : HeldSlot)
    → IsSlotOf hash cur q at → IsNext cur place at → IsNowhere stripes q place → IsVacant hash stripes q place at
vacant_there {V} hash stripes cur q place same at slot next nowhere = record {
  slot = subst (λ (l : List (StripeState V)). IsSlotOf hash l q at) same slot;
  next = subst (λ (l : List (StripeState V)). IsNext l place at) same next;
  nowhere = nowhere;
}

pub returns-in-Some-clause-room : goal.returns-in-Some-clause-room
returns-in-Some-clause-room g c = bound_with_room _ _ _ _ c.requires _ refl c.in-Some.at c.in-Some.ensures.occupied

pub returns-clause-entry : goal.returns-clause-entry
returns-clause-entry g c = vacant_there _ _ _ _ _ c.find_slot.ensures.same c.in_ok-at.at c.in_ok-at.ensures.slot c.in_ok-at.ensures.next c.in_default.ensures.nowhere

pub returns-clause-room : goal.returns-clause-room
returns-clause-room g c =
    with_room _ _ _ _ c.requires _ refl c.in_ok-at.at (vacant_there _ _ _ _ _ c.find_slot.ensures.same c.in_ok-at.at c.in_ok-at.ensures.slot c.in_ok-at.ensures.next c.in_default.ensures.nowhere)

pub returns-in_err-at-clause-no_room : goal.returns-in_err-at-clause-no_room
returns-in_err-at-clause-no_room g c =
    none_anyway c.from_residual.result _ (without_room _ _ _ _ c.requires _ refl c.in_default.ensures.nowhere
    (subst (λ (l : List (StripeState g.row.V.Denot)). AreFull l c.args.place) c.find_slot.ensures.same c.in_err-at.ensures.full))
