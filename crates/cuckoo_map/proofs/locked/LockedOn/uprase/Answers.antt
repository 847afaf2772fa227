use Rattle.std.proofs.Common.{Option}
use Rattle.std.proofs.lemmas.Result.{IfOk-weaker}
use Rattle.cuckoo_map.specs.Locking.{HasActed}
use Rattle.cuckoo_map.proofs.Told.{as_uprased}
use Rattle.cuckoo_map.proofs.locked.LockedOn.uprase.Goals as goal

pub returns : goal.returns
returns g c =
    record {
      answered = IfOk-weaker c.make.result _ _
          (λ answer told. as_uprased (HasActed (g.K.TableKey.name c.args.key) c.args.self.now c.make.new.self)
          (λ (v : g.row.V.Denot) (o : Option g.row.V.Denot). g.F.FnOnce.post c.args.f (v, tt) o) c.args.value answer told.0 told.1 told.2 told.3)
          c.make.ensures.answered;
      refused = c.make.ensures.refused;
      grows = c.make.ensures.grows;
    }
