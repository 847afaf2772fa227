use Rattle.std.proofs.Common.{refl}
use Rattle.ck_model.specs.declared.history.Act.TheVariants.{Change}
use Rattle.ck_model.specs.declared.history.Reply.TheVariants.{Done, Absent}
use Rattle.ck_section.proofs.Steps.{lacked, unchanged, place_still, here_still, since, changes_since}
use Rattle.ck_section.proofs.KeptFree.{free_same, free_since}
use Rattle.ck_section.proofs.KeptOthers.{keeps_same, keeps_since}
use Rattle.ck_section.proofs.one_key.modify.Goals as goal

pub find_slot-requires : goal.find_slot-requires
find_slot-requires g c = c.requires.place

pub returns-in-None-clause-unbound : goal.returns-in-None-clause-unbound
returns-in-None-clause-unbound g c = (refl, lacked _ _ _ _ c.requires.place _ c.find_slot.ensures.same Change Absent c.in-None.ensures.nowhere (refl, refl))

pub returns-in-None-clause-rest : goal.returns-in-None-clause-rest
returns-in-None-clause-rest g c = unchanged _ _ c.find_slot.ensures.same

pub returns-in-None-clause-others : goal.returns-in-None-clause-others
returns-in-None-clause-others g c = keeps_same _ _ _ c.find_slot.ensures.same

pub returns-in-None-clause-free : goal.returns-in-None-clause-free
returns-in-None-clause-free g c = free_same _ _ c.find_slot.ensures.same

pub modify_entry-requires : goal.modify_entry-requires
modify_entry-requires g c = record {
  place = place_still _ _ _ _ c.requires.place _ c.find_slot.ensures.same;
  occupied = here_still _ _ _ _ c.requires.place _ c.find_slot.ensures.same c.in-Some.at c.in-Some.ensures.occupied;
  call = c.requires.call;
}

pub returns-clause-bound : goal.returns-clause-bound
returns-clause-bound g c =
    let made = c.modify_entry.ensures.bound in
    (made.0, made.1, made.2, since _ _ _ _ c.requires.place _ c.find_slot.ensures.same _ (made.3 Change (Done made.0 made.1) (made.1, refl, refl)))

pub returns-clause-rest : goal.returns-clause-rest
returns-clause-rest g c = changes_since _ _ _ c.find_slot.ensures.same c.modify_entry.ensures.rest

pub returns-clause-others : goal.returns-clause-others
returns-clause-others g c = keeps_since _ _ _ _ c.find_slot.ensures.same c.modify_entry.ensures.others

pub returns-clause-free : goal.returns-clause-free
returns-clause-free g c = free_since _ _ _ c.find_slot.ensures.same c.modify_entry.ensures.free

pub returns-clause-stays : goal.returns-clause-stays
returns-clause-stays g c = g.met.H.Held.stays_on _ _ _ c.find_slot.ensures.stays c.modify_entry.ensures.stays
