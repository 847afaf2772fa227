use Rattle.std.proofs.lemmas.Result.{IfOk-weaker}
use Rattle.cuckoo_map.specs.LockedKeys.{ActsOn}
use Rattle.cuckoo_map.proofs.Told.{as_said}
use Rattle.cuckoo_map.proofs.locked_keys.LockedKeysOn.insert_or_assign.Goals as goal

pub returns-clause-answered : goal.returns-clause-answered
returns-clause-answered g c =
    IfOk-weaker c.make.result _ _
    (λ answer told. as_said (ActsOn (g.K.TableKey.name c.args.key) c.args.self.now c.make.new.self) told.2 told.3)
    c.make.ensures.answered
