use Rattle.std.proofs.Common.{refl}
use Rattle.ck_model.specs.declared.history.Act.TheVariants.{Change}
use Rattle.ck_model.specs.declared.history.Reply.TheVariants.{Absent}
use Rattle.ck_section.proofs.Steps.{lacked, remade, unchanged, ready_for}
use Rattle.ck_section.proofs.KeptFree.{free_same}
use Rattle.ck_section.proofs.KeptOthers.{keeps_same}
use Rattle.ck_section.proofs.one_key.update_fn.Goals as goal

pub find_slot-requires : goal.find_slot-requires
find_slot-requires g c = c.requires.place

pub returns-in_default : goal.returns-in_default
returns-in_default g c =
    let same = c.find_slot.ensures.same in
    record { call = lacked _ _ _ _ c.requires.place _ same Change Absent c.in_default.ensures.nowhere (refl, refl); same = same; rest = unchanged _ _ same; others = keeps_same _ _ _ same; free = free_same _ _ same; stays = c.find_slot.ensures.stays }

pub change-requires : goal.change-requires
change-requires g c = ready_for _ _ _ _ c.requires.place _ c.find_slot.ensures.same c.in-Some.at c.in-Some.ensures.occupied c.requires.call

pub returns : goal.returns
returns g c =
    let made = remade _ _ _ _ c.requires.place _ c.find_slot.ensures.same c.in-Some.at c.in-Some.ensures.occupied _ Change _ (λ v w. (w, refl, refl)) c.change.ensures.content in
    record { call = made.0; same = tt; rest = made.1; others = made.2; free = made.3; stays = g.met.H.Held.stays_on _ _ _ c.find_slot.ensures.stays c.change.ensures.stays }
