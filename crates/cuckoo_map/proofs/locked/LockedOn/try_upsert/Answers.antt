use Rattle.std.proofs.Common.{Result}
use Rattle.std.proofs.lemmas.Result.{IfOk-weaker}
use Rattle.cuckoo_map.specs.Locking.{HasActed}
use Rattle.cuckoo_map.proofs.Told.{as_tried}
use Rattle.cuckoo_map.proofs.locked.LockedOn.try_upsert.Goals as goal

pub returns : goal.returns
returns g c =
    record {
      answered = IfOk-weaker c.make.result _ _
          (λ answer told. as_tried (HasActed (g.K.TableKey.name c.args.key) c.args.self.now c.make.new.self)
          (λ (v : g.row.V.Denot) (r : Result g.row.V.Denot (g.row.V.Denot × g.row.E.Denot)). g.F.FnOnce.post c.args.f (v, tt) r) c.args.value answer told.0 told.1 told.2 told.3)
          c.make.ensures.answered;
      refused = c.make.ensures.refused;
      grows = c.make.ensures.grows;
    }
