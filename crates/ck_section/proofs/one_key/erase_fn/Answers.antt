use Rattle.std.proofs.Common.{refl, sym, ap, List, None, Some, ◌∙◌}
use Rattle.ck_model.specs.declared.history.Act.TheVariants.{Find, Erase}
use Rattle.ck_model.specs.declared.history.Reply.TheVariants.{Was}
use Rattle.ck_stripe.specs.Stripe.{StripeState}
use Rattle.ck_stripe.specs.HeldSlots.{slot_in}
use Rattle.ck_section.proofs.Steps.{lacked, read_kept, took, unchanged, ready, ready_for, slot_changes}
use Rattle.ck_section.proofs.one_key.erase_fn.Goals as goal

pub find_slot-requires : goal.find_slot-requires
find_slot-requires g c = c.requires.place

pub returns-in_default : goal.returns-in_default
returns-in_default g c =
    let same = c.find_slot.ensures.same in
    record { bound = tt; same = tt; unbound = (refl, lacked _ _ _ _ c.requires.place _ same Find (Was None) c.in_default.ensures.nowhere (refl, refl), same); rest = unchanged _ _ same; stays = c.find_slot.ensures.stays }

pub read-requires : goal.read-requires
read-requires g c = ready_for _ _ _ _ c.requires.place _ c.find_slot.ensures.same c.in-Some.at c.in-Some.ensures.occupied c.requires.call

pub returns-then-not-read : goal.returns-then-not-read
returns-then-not-read g c =
    let same = c.read.ensures.same ∙ c.find_slot.ensures.same in
    record {
      bound = read_kept _ _ _ _ c.requires.place _ c.find_slot.ensures.same c.in-Some.at c.in-Some.ensures.occupied _ c.if-not-read.ensures.read _ c.read.ensures.same;
      same = same;
      unbound = tt;
      rest = unchanged _ _ same;
      stays = g.met.H.Held.stays_on _ _ _ c.find_slot.ensures.stays c.read.ensures.stays;
    }

pub remove-requires : goal.remove-requires
remove-requires g c = ready _ _ _ _ c.requires.place _ (c.read.ensures.same ∙ c.find_slot.ensures.same) c.in-Some.at c.in-Some.ensures.occupied

pub returns-clause-bound : goal.returns-clause-bound
returns-clause-bound g c =
    let at = c.in-Some.at in
    let v = c.remove.result.1 in (
      v,
      c.if-not-read.ensures.read _ v (ap (λ (l : List (StripeState g.row.V.Denot)). slot_in l at) (sym c.read.ensures.same) ∙ c.remove.ensures.entry),
      took _ _ _ _ c.requires.place _ (c.read.ensures.same ∙ c.find_slot.ensures.same) at c.in-Some.ensures.occupied Erase (λ (w : g.row.V.Denot). Was (Some w)) _ v _ (λ w. (refl, refl)) c.remove.ensures.entry c.remove.ensures.content,
    )

pub returns-clause-rest : goal.returns-clause-rest
returns-clause-rest g c = slot_changes _ _ _ c.in-Some.at _ _ (c.read.ensures.same ∙ c.find_slot.ensures.same) c.in-Some.ensures.occupied.slot.reach c.remove.ensures.content

pub returns-clause-stays : goal.returns-clause-stays
returns-clause-stays g c = g.met.H.Held.stays_on _ _ _ c.find_slot.ensures.stays (g.met.H.Held.stays_on _ _ _ c.read.ensures.stays c.remove.ensures.stays)
