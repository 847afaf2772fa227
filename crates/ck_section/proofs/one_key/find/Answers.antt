use Rattle.std.proofs.Common.{refl, None, ◌∙◌}
use Rattle.ck_model.specs.declared.history.Act.TheVariants.{Find}
use Rattle.ck_model.specs.declared.history.Reply.TheVariants.{Was}
use Rattle.ck_section.proofs.Steps.{lacked, read_kept, ready_for}
use Rattle.ck_section.proofs.one_key.find.Goals as goal

pub find_slot-requires : goal.find_slot-requires
find_slot-requires g c = c.requires.place

pub returns-in-None-clause-unbound : goal.returns-in-None-clause-unbound
returns-in-None-clause-unbound g c = (refl, lacked _ _ _ _ c.requires.place _ c.find_slot.ensures.same Find (Was None) c.in-None.ensures.nowhere (refl, refl))

pub read-requires : goal.read-requires
read-requires g c = ready_for _ _ _ _ c.requires.place _ c.find_slot.ensures.same c.in-Some.at c.in-Some.ensures.occupied c.requires.call

pub returns-clause-bound : goal.returns-clause-bound
returns-clause-bound g c = read_kept _ _ _ _ c.requires.place _ c.find_slot.ensures.same c.in-Some.at c.in-Some.ensures.occupied _ c.read.ensures.read _ c.read.ensures.same

pub returns-clause-same : goal.returns-clause-same
returns-clause-same g c = c.read.ensures.same ∙ c.find_slot.ensures.same

pub returns-clause-stays : goal.returns-clause-stays
returns-clause-stays g c = g.met.H.Held.stays_on _ _ _ c.find_slot.ensures.stays c.read.ensures.stays
