use Rattle.std.proofs.Common.{subst}
use Rattle.std.proofs.lemmas.Result.{IfOk-weaker, on_ok_weaker}
use Rattle.ck_model.specs.Listing.{ListsInOrder}
use Rattle.cuckoo_map.specs.Locking.{LockedState, map_of}
use Rattle.cuckoo_map.proofs.Sessions.{drained_locked, drains_map}
use Rattle.cuckoo_map.proofs.locked.LockedOn.drain.Goals as goal

pub invariant_of-self : goal.invariant_of-self
invariant_of-self g c =
    let set = (g.T.TableRef.state c.self.inside.table).settings in
    drained_locked c.self.invariant c.drain_in.new.whole c.drain_in.ensures.same c.drain_in.result c.drain_in.ensures.changes
    (on_ok_weaker c.drain_in.result (λ cleared. cleared set.s set.max c.self.invariant.table) c.drain_in.ensures.cleared) c.drain_in.ensures.left

pub returns-clause-drained : goal.returns-clause-drained
returns-clause-drained g c =
    let set = (g.T.TableRef.state c.self.inside.table).settings in
    let lawful = c.self.invariant.renewed.lawful in
    drains_map c.self.invariant c.drain_in.new.whole c.drain_in.ensures.same c.self.view_is
    (λ pairs. ListsInOrder g.K.TableKey.name g.K.Ord.cmp pairs.items (map_of c.args.self.now)) c.drain_in.result c.drain_in.ensures.changes
    (on_ok_weaker c.drain_in.result (λ cleared. cleared set.s set.max c.self.invariant.table) c.drain_in.ensures.cleared)
    (IfOk-weaker c.drain_in.result _ _
    (λ pairs lists. subst (λ (l : LockedState g.row.V.Denot). ListsInOrder g.K.TableKey.name g.K.Ord.cmp pairs.items (map_of l)) c.self.view_is (lists set.s set.max lawful))
    c.drain_in.ensures.pairs)
