use Rattle.std.proofs.Common.{refl, ◌∙◌}
use Rattle.ck_section.proofs.Renaming.{was_found, was_missed, finds_unbound, finds_first, finds_both, finds_no_room, to_reach, to_free, renamed, renamed_contents}
use Rattle.ck_section.proofs.two_keys.rename.Goals as goal

pub returns-in_default-clause-call : goal.returns-in_default-clause-call
returns-in_default-clause-call g c =
    finds_unbound _ _ _ _ _ _ c.requires.first c.requires.second c.requires.different _ c.find_slot.ensures.same c.in_default.ensures.nowhere

pub returns-then-is_some-clause-call : goal.returns-then-is_some-clause-call
returns-then-is_some-clause-call g c =
    finds_both _ _ _ _ _ _ c.requires.first c.requires.second c.requires.different _ _ c.find_slot.ensures.same c.find_slot-2.ensures.same c.in-Some.at c.in-Some.ensures.occupied
    (was_found _ _ c.if-is_some.ensures c.find_slot-2.ensures.occupied)

pub returns-in_default-slot_for-clause-full : goal.returns-in_default-slot_for-clause-full
returns-in_default-slot_for-clause-full g c = (
  refl,
  finds_no_room _ _ _ _ _ _ c.requires.first c.requires.second c.requires.different _ _ c.find_slot.ensures.same c.find_slot-2.ensures.same c.in-Some.at c.in-Some.ensures.occupied
      (was_missed _ _ c.if-is_some.ensures c.find_slot-2.ensures.nowhere) c.in_default-slot_for.ensures.full,
)

pub returns-in_default-slot_for-clause-bound : goal.returns-in_default-slot_for-clause-bound
returns-in_default-slot_for-clause-bound g c =
    finds_first _ _ _ _ _ _ c.requires.first c.requires.second c.requires.different _ _ c.find_slot.ensures.same (c.slot_for.ensures.same ∙ c.find_slot-2.ensures.same) c.in-Some.at c.in-Some.ensures.occupied

pub returns-in_default-slot_for-clause-stays : goal.returns-in_default-slot_for-clause-stays
returns-in_default-slot_for-clause-stays g c =
    let on = g.met.H.Held.stays_on in
    on _ _ _ c.find_slot.ensures.stays (on _ _ _ c.find_slot-2.ensures.stays c.slot_for.ensures.stays)

pub put-requires-clause-reach : goal.put-requires-clause-reach
put-requires-clause-reach g c =
    let free = c.in-Some-slot_for.ensures in
    to_reach _ _ _ _ _ _ c.requires.first c.requires.second c.requires.different _ _ c.find_slot.ensures.same c.find_slot-2.ensures.same c.in-Some.at c.in-Some.ensures.occupied
    (was_missed _ _ c.if-is_some.ensures c.find_slot-2.ensures.nowhere) c.in-Some-slot_for.free free.slot free.free _ c.slot_for.ensures.same _ _ _ c.remove-value.ensures.entry c.remove-value.ensures.content

pub put-requires-clause-free : goal.put-requires-clause-free
put-requires-clause-free g c =
    let free = c.in-Some-slot_for.ensures in
    to_free _ _ _ _ _ _ c.requires.first c.requires.second c.requires.different _ _ c.find_slot.ensures.same c.find_slot-2.ensures.same c.in-Some.at c.in-Some.ensures.occupied
    (was_missed _ _ c.if-is_some.ensures c.find_slot-2.ensures.nowhere) c.in-Some-slot_for.free free.slot free.free _ c.slot_for.ensures.same _ _ _ c.remove-value.ensures.entry c.remove-value.ensures.content

pub returns-clause-call : goal.returns-clause-call
returns-clause-call g c =
    let free = c.in-Some-slot_for.ensures in
    renamed _ _ _ _ _ _ c.requires.first c.requires.second c.requires.different _ _ c.find_slot.ensures.same c.find_slot-2.ensures.same c.in-Some.at c.in-Some.ensures.occupied
    (was_missed _ _ c.if-is_some.ensures c.find_slot-2.ensures.nowhere) c.in-Some-slot_for.free free.slot free.free _ c.slot_for.ensures.same _ _ _ c.remove-value.ensures.entry c.remove-value.ensures.content _ c.put.ensures.content

pub returns-clause-rest : goal.returns-clause-rest
returns-clause-rest g c =
    let free = c.in-Some-slot_for.ensures in
    renamed_contents _ _ _ _ _ _ c.requires.first c.requires.second c.requires.different _ _ c.find_slot.ensures.same c.find_slot-2.ensures.same c.in-Some.at c.in-Some.ensures.occupied
    (was_missed _ _ c.if-is_some.ensures c.find_slot-2.ensures.nowhere) c.in-Some-slot_for.free free.slot free.free _ c.slot_for.ensures.same _ _ _ c.remove-value.ensures.entry c.remove-value.ensures.content _ c.put.ensures.content

pub returns-clause-stays : goal.returns-clause-stays
returns-clause-stays g c =
    let on = g.met.H.Held.stays_on in
    on _ _ _ c.find_slot.ensures.stays (on _ _ _ c.find_slot-2.ensures.stays (on _ _ _ c.slot_for.ensures.stays (on _ _ _ c.remove-value.ensures.stays c.put.ensures.stays)))
