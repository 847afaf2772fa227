use Rattle.cuckoo_map.proofs.Sessions.{changed_locked, clears_map}
use Rattle.cuckoo_map.proofs.locked.LockedOn.clear.Goals as goal

pub invariant_of-self : goal.invariant_of-self
invariant_of-self g c =
    let set = (g.T.TableRef.state c.self.inside.table).settings in
    let clears = c.clear_in.ensures.cleared set.s set.max c.self.invariant.table in
    changed_locked c.self.invariant c.clear_in.new.whole c.clear_in.ensures.same c.clear_in.ensures.changes (clears c.self.invariant.renewed.lawful).0

pub returns : goal.returns
returns g c =
    let set = (g.T.TableRef.state c.self.inside.table).settings in
    clears_map c.self.invariant c.clear_in.new.whole c.clear_in.ensures.same c.self.view_is c.clear_in.ensures.changes (c.clear_in.ensures.cleared set.s set.max c.self.invariant.table)
