use Rattle.std.proofs.Common.{map, drop}
use Rattle.ck_model.specs.Numbered.{AreDistinct}
use Rattle.cuckoo_map.proofs.several_keys.repeated.Given as goal

abbrev pub invariant-loop-i : goal.invariant-loop-i
invariant-loop-i g l = record { different : AreDistinct (map g.Q.Query.name (drop l.i l.keys)) }
