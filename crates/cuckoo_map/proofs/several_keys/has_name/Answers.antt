use Rattle.std.proofs.Common.{map, sym, subst}
use Rattle.ck_model.specs.Numbered.{IsIn}
use Rattle.ck_section.proofs.SeveralKeys.{key_among}
use Rattle.cuckoo_map.proofs.SeveralKeys.{none_next, never}
use Rattle.cuckoo_map.proofs.several_keys.has_name.Goals as goal

pub returns-then-is_same_name : goal.returns-then-is_same_name
returns-then-is_same_name g c =
    let name = g.Q.Query.name in
    let keys = c.args.keys.now in
    let same = c.is_same_name.ensures.0 c.if-is_same_name.true in
    subst (λ q. IsIn q (map name keys)) (sym same) (key_among name keys c.loop-other.other-index c.other-item.result c.loop-other-test.true c.other-item.is)

pub loop-other-preserved : goal.loop-other-preserved
loop-other-preserved g c = record {
  none = none_next g.Q.Query.name (g.Q.Query.name c.args.key) c.args.keys.now c.loop-other.other-index c.other-item.result c.loop-other-test.true c.other-item.is c.loop-other.invariant.none
      (λ same. never c.is_same_name.result (c.is_same_name.ensures.1 same) c.if-is_same_name.false);
}
