use Rattle.std.proofs.lemmas.Result.{IfOk-weaker}
use Rattle.cuckoo_map.specs.Locking.{HasActed}
use Rattle.cuckoo_map.proofs.Told.{as_said}
use Rattle.cuckoo_map.proofs.locked.LockedOn.insert_or_assign.Goals as goal

pub returns : goal.returns
returns g c =
    record {
      answered = IfOk-weaker c.make.result _ _
          (λ old told. as_said (HasActed (g.K.TableKey.name c.args.key) c.args.self.now c.make.new.self) told.2 told.3)
          c.make.ensures.answered;
      refused = c.make.ensures.refused;
      grows = c.make.ensures.grows;
    }
