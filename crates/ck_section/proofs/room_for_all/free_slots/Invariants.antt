use Rattle.std.proofs.Common.{◌≡◌, ◌+◌, ◌*◌, length, take}
use Rattle.ck_section.specs.HeldBuckets.{pairs_there}
use Rattle.ck_section.proofs.room_for_all.free_slots.Given as goal

abbrev pub invariant-loop-i : goal.invariant-loop-i
invariant-loop-i g l = record {
  same : g.H.Held.stripes l.held ≡ g.H.Held.stripes l.initial.held;
  stays : g.H.Held.stays l.initial.held l.held;
  so_far : l.free + length (pairs_there (g.H.Held.stripes l.initial.held) (take l.i l.at)) ≡ 4 * l.i;
}
