use Rattle.std.proofs.Common.{refl, None, Some}
use Rattle.ck_model.specs.declared.history.Act.TheVariants.{Erase}
use Rattle.ck_model.specs.declared.history.Reply.TheVariants.{Was}
use Rattle.ck_section.proofs.Steps.{replied_none, lacked, took, took_keeps, took_room, left_free, unchanged, ready, slot_changes}
use Rattle.ck_section.proofs.KeptFree.{free_same}
use Rattle.ck_section.proofs.KeptOthers.{keeps_same}
use Rattle.ck_section.proofs.one_key.erase.Goals as goal

pub find_slot-requires : goal.find_slot-requires
find_slot-requires g c = c.requires

pub returns-in_err-at-clause-call : goal.returns-in_err-at-clause-call
returns-in_err-at-clause-call g c = replied_none _ _ _ _ _ _ _ c.from_residual.ensures (lacked _ _ _ _ c.requires _ c.find_slot.ensures.same Erase (Was None) c.in_err-at.ensures.nowhere (refl, refl))

pub returns-in_err-at-clause-rest : goal.returns-in_err-at-clause-rest
returns-in_err-at-clause-rest g c = unchanged _ _ c.find_slot.ensures.same

pub returns-in_err-at-clause-others : goal.returns-in_err-at-clause-others
returns-in_err-at-clause-others g c = keeps_same _ _ _ c.find_slot.ensures.same

pub returns-in_err-at-clause-free : goal.returns-in_err-at-clause-free
returns-in_err-at-clause-free g c = free_same _ _ c.find_slot.ensures.same

pub returns-in_err-at-clause-stays : goal.returns-in_err-at-clause-stays
returns-in_err-at-clause-stays g c = c.find_slot.ensures.stays

pub remove-value-requires : goal.remove-value-requires
remove-value-requires g c = ready _ _ _ _ c.requires _ c.find_slot.ensures.same c.in_ok-at.at c.in_ok-at.ensures.occupied

pub returns-clause-call : goal.returns-clause-call
returns-clause-call g c =
    took _ _ _ _ c.requires _ c.find_slot.ensures.same c.in_ok-at.at c.in_ok-at.ensures.occupied Erase (λ (v : g.row.V.Denot). Was (Some v)) _ c.remove-value.result.1 _ (λ w. (refl, refl)) c.remove-value.ensures.entry c.remove-value.ensures.content

pub returns-clause-rest : goal.returns-clause-rest
returns-clause-rest g c = slot_changes _ _ _ c.in_ok-at.at _ _ c.find_slot.ensures.same c.in_ok-at.ensures.occupied.slot.reach c.remove-value.ensures.content

pub returns-clause-others : goal.returns-clause-others
returns-clause-others g c = took_keeps _ _ _ _ c.requires _ c.find_slot.ensures.same c.in_ok-at.at c.in_ok-at.ensures.occupied _ _ c.remove-value.ensures.content

pub returns-clause-free : goal.returns-clause-free
returns-clause-free g c = left_free _ _ _ _ c.requires _ c.find_slot.ensures.same c.in_ok-at.at c.in_ok-at.ensures.occupied _ _ _ c.remove-value.ensures.content

pub returns-clause-room : goal.returns-clause-room
returns-clause-room g c = took_room _ _ _ _ c.requires _ c.find_slot.ensures.same c.in_ok-at.at c.in_ok-at.ensures.occupied _ _ c.remove-value.ensures.content

pub returns-clause-stays : goal.returns-clause-stays
returns-clause-stays g c = g.met.H.Held.stays_on _ _ _ c.find_slot.ensures.stays c.remove-value.ensures.stays
