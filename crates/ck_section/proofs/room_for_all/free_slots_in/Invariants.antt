use Rattle.std.proofs.Common.{◌≡◌, ◌+◌, length, take}
use Rattle.ck_model.specs.Slots.{taken_in}
use Rattle.ck_section.proofs.room_for_all.free_slots_in.Given as goal

abbrev pub invariant-loop-i : goal.invariant-loop-i
invariant-loop-i g l = l.free + length (taken_in (take l.i l.partials)) ≡ l.i
