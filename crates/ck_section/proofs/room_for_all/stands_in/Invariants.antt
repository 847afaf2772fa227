use Rattle.std.proofs.Common.{◌≡◌, false, take}
use Rattle.std.specs.List.{list_any}
use Rattle.ck_section.proofs.RoomTested.{has_name}
use Rattle.ck_section.proofs.room_for_all.stands_in.Given as goal

abbrev pub invariant-loop-i : goal.invariant-loop-i
invariant-loop-i g l = record {
  same : g.H.Held.stripes l.held ≡ g.H.Held.stripes l.initial.held;
  stays : g.H.Held.stays l.initial.held l.held;
  none : list_any (has_name (g.H.Held.stripes l.initial.held) (g.Q.Query.name l.key)) (take l.i l.at) ≡ false;
}
