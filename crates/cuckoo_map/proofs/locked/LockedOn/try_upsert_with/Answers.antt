use Rattle.std.proofs.Common.{Result}
use Rattle.cuckoo_map.specs.Locking.{HasActed}
use Rattle.cuckoo_map.proofs.Told.{as_tried_with}
use Rattle.cuckoo_map.proofs.locked.LockedOn.try_upsert_with.Goals as goal

pub returns : goal.returns
returns g c =
    let did = c.in_ok-answer.ensures in
    let told = did.answered in
    record {
      answered = as_tried_with (HasActed (g.K.TableKey.name c.args.key) c.args.self.now c.make.new.self) c.args.make
          (λ (v : g.row.V.Denot). g.G.FnOnce.post c.args.make tt v)
          (λ (v : g.row.V.Denot) (r : Result g.row.V.Denot (g.row.V.Denot × g.row.E.Denot)). g.F.FnOnce.post c.args.f (v, tt) r) c.in_ok-answer.answer _ told.0 told.1 told.2 told.3;
      refused = tt;
      grows = did.grows;
    }
