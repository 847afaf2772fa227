use Rattle.std.proofs.Common.{map, take}
use Rattle.ck_model.specs.Numbered.{IsIn}
use Rattle.cuckoo_map.proofs.several_keys.has_name.Given as goal

abbrev pub invariant-loop-other : goal.invariant-loop-other
invariant-loop-other g l = record { none : ¬ (IsIn (g.Q.Query.name l.key) (map g.Q.Query.name (take l.other-index l.keys))) }
