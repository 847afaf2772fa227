use Rattle.std.proofs.Common.{◌≡◌, Some, length, map, take}
use Rattle.cuckoo_map.proofs.several_keys.all_of.Given as goal

abbrev pub invariant-loop-i : goal.invariant-loop-i
invariant-loop-i g l = record {
  as_many : length l.all ≡ g.row.N;
  so_far : take l.i l.values ≡ map Some (take l.i l.all);
}
