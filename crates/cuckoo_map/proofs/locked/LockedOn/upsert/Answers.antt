use Rattle.std.proofs.lemmas.Result.{IfOk-weaker}
use Rattle.cuckoo_map.specs.Locking.{HasActed}
use Rattle.cuckoo_map.proofs.Told.{as_upserted}
use Rattle.cuckoo_map.proofs.locked.LockedOn.upsert.Goals as goal

pub returns : goal.returns
returns g c =
    record {
      answered = IfOk-weaker c.make.result _ _
          (λ fresh told. as_upserted (HasActed (g.K.TableKey.name c.args.key) c.args.self.now c.make.new.self) _ c.args.value fresh told.0 told.1 told.2 told.3)
          c.make.ensures.answered;
      refused = c.make.ensures.refused;
      grows = c.make.ensures.grows;
    }
