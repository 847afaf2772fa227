use Rattle.std.proofs.Common.{refl, sym, ap, List, None, Some, ◌∙◌}
use Rattle.std.specs.Fn.{FnOnceReturnsAt}
use Rattle.ck_model.specs.declared.history.Act.TheVariants.{Find, Change}
use Rattle.ck_model.specs.declared.history.Reply.TheVariants.{Was}
use Rattle.ck_stripe.specs.Stripe.{StripeState}
use Rattle.ck_stripe.specs.HeldSlots.{slot_in}
use Rattle.ck_section.proofs.Steps.{lacked, read_kept, remade, unchanged, ready, ready_for}
use Rattle.ck_section.proofs.KeptFree.{free_same}
use Rattle.ck_section.proofs.one_key.replace_if.Goals as goal

pub find_slot-requires : goal.find_slot-requires
find_slot-requires g c = c.requires.place

pub returns-in-None-clause-unbound : goal.returns-in-None-clause-unbound
returns-in-None-clause-unbound g c = (refl, lacked _ _ _ _ c.requires.place _ c.find_slot.ensures.same Find (Was None) c.in-None.ensures.nowhere (refl, refl))

pub returns-in-None-clause-rest : goal.returns-in-None-clause-rest
returns-in-None-clause-rest g c = unchanged _ _ c.find_slot.ensures.same

pub returns-in-None-clause-free : goal.returns-in-None-clause-free
returns-in-None-clause-free g c = free_same _ _ c.find_slot.ensures.same

pub returns-in-None-clause-stays : goal.returns-in-None-clause-stays
returns-in-None-clause-stays g c = c.find_slot.ensures.stays

pub read-requires : goal.read-requires
read-requires g c = ready_for _ _ _ _ c.requires.place _ c.find_slot.ensures.same c.in-Some.at c.in-Some.ensures.occupied c.requires.call

pub returns-in-None-read : goal.returns-in-None-read
returns-in-None-read g c =
    let same = c.read.ensures.same ∙ c.find_slot.ensures.same in
    let r = read_kept _ _ _ _ c.requires.place _ c.find_slot.ensures.same c.in-Some.at c.in-Some.ensures.occupied _ c.in-None-read.ensures.read _ c.read.ensures.same in
    record { bound = (r.0, (r.1, r.2)); unbound = tt; same = same; rest = unchanged _ _ same; free = free_same _ _ same; stays = g.met.H.Held.stays_on _ _ _ c.find_slot.ensures.stays c.read.ensures.stays }

pub replace-requires : goal.replace-requires
replace-requires g c = ready _ _ _ _ c.requires.place _ (c.read.ensures.same ∙ c.find_slot.ensures.same) c.in-Some.at c.in-Some.ensures.occupied

pub returns-in-Some-read : goal.returns-in-Some-read
returns-in-Some-read g c =
    let at = c.in-Some.at in
    let value = c.in-Some-read.value in
    let r = remade _ _ _ _ c.requires.place _ (c.read.ensures.same ∙ c.find_slot.ensures.same) at c.in-Some.ensures.occupied (λ v w. FnOnceReturnsAt g.F.FnOnce c.args.f v (Some w)) Change _ (λ v w. (w, refl, refl))
    (λ n v is. (value, c.in-Some-read.ensures.read n v (ap (λ (l : List (StripeState g.row.V.Denot)). slot_in l at) (sym c.read.ensures.same) ∙ is), (c.replace.ensures.content n v is).1)) in
    record {
      bound = (r.0.0, (r.0.1, r.0.2, r.0.3));
      unbound = tt;
      same = tt;
      rest = r.1;
      free = r.3;
      stays = g.met.H.Held.stays_on _ _ _ c.find_slot.ensures.stays (g.met.H.Held.stays_on _ _ _ c.read.ensures.stays c.replace.ensures.stays);
    }
