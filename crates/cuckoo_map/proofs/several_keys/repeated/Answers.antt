use Rattle.std.proofs.Common.{◌+◌, ◌-◌, map, subst, arith}
use Rattle.ck_model.specs.Numbered.{IsIn}
use Rattle.cuckoo_map.proofs.SeveralKeys.{behind, stands_again}
use Rattle.cuckoo_map.proofs.several_keys.repeated.Goals as goal

pub returns-then-has_name-clause-again : goal.returns-then-has_name-clause-again
returns-then-has_name-clause-again g c =
    let i = c.loop-i.i - 1 in
    let name = g.Q.Query.name in
    let k = c.index-keys-i.result in
    let keys = c.args.keys.now in
    stands_again name keys i k (omega arith) c.index-keys-i.is (subst (λ ks. IsIn (name k) (map name ks)) (behind keys (i + 1)) c.if-has_name.ensures)
