use Rattle.std.proofs.Common.{◌≡◌, false, take}
use Rattle.std.specs.List.{list_any}
use Rattle.ck_section.proofs.RoomTested.{is_of}
use Rattle.ck_section.proofs.place.KeyPlace.has_one_of.Given as goal

abbrev pub invariant-loop-i : goal.invariant-loop-i
invariant-loop-i l = list_any (is_of l.self) (take l.i l.buckets) ≡ false
