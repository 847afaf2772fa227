use Rattle.std.proofs.lemmas.Result.{IfOk-weaker}
use Rattle.cuckoo_map.specs.LockedKeys.{ActsOn}
use Rattle.cuckoo_map.proofs.Told.{as_upserted}
use Rattle.cuckoo_map.proofs.locked_keys.LockedKeysOn.upsert.Goals as goal

pub returns-clause-answered : goal.returns-clause-answered
returns-clause-answered g c =
    IfOk-weaker c.make.result _ _
    (λ fresh told. as_upserted (ActsOn (g.K.TableKey.name c.args.key) c.args.self.now c.make.new.self) _ c.args.value fresh told.0 told.1 told.2 told.3)
    c.make.ensures.answered
