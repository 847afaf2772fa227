use Rattle.std.proofs.Common.{◌≡◌, Some, IsSome, All, map, take}
use Rattle.cuckoo_map.specs.SeveralKeys.{IsSameButStripes, bound_to}
use Rattle.cuckoo_map.specs.LockedKeys.{HoldsKeys}
use Rattle.cuckoo_map.proofs.table.Table.update_each.Given as goal

abbrev pub invariant-loop-i : goal.invariant-loop-i
invariant-loop-i g l = record {
  held : HoldsKeys g.K.TableKey.hash l.self l.stripes (map g.Q.Query.name l.keys) l.pass;
  stays : IsSameButStripes l.initial.pass l.pass;
  bound : All IsSome (bound_to (map g.Q.Query.name l.keys) l.pass);
  so_far : take l.i (bound_to (map g.Q.Query.name l.keys) l.pass) ≡ map Some (take l.i l.values);
}
