use Rattle.cuckoo_map.proofs.Sessions.{changed_locked, retains_map}
use Rattle.cuckoo_map.proofs.locked.LockedOn.retain.Goals as goal

pub invariant_of-self : goal.invariant_of-self
invariant_of-self g c =
    let set = (g.T.TableRef.state c.self.inside.table).settings in
    let retains = c.retain_in.ensures.retained set.s set.max c.self.invariant.table in
    changed_locked c.self.invariant c.retain_in.new.whole c.retain_in.ensures.same c.retain_in.ensures.changes (retains c.self.invariant.renewed.lawful).0

pub returns : goal.returns
returns g c =
    let set = (g.T.TableRef.state c.self.inside.table).settings in
    retains_map c.self.invariant c.retain_in.new.whole c.retain_in.ensures.same c.self.view_is g.F.FnMut g.K.TableKey.name c.args.f c.retain_in.ensures.changes
    (c.retain_in.ensures.retained set.s set.max c.self.invariant.table)
