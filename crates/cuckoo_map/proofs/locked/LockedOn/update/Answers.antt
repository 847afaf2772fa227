use Rattle.ck_model.specs.declared.history.Act.TheVariants.{Update}
use Rattle.ck_model.specs.declared.history.Reply.TheVariants.{Was}
use Rattle.cuckoo_map.proofs.KeptRoom.{changed_keeps_room, update_unbinds_none}
use Rattle.cuckoo_map.proofs.Sessions.{only_stripes, place_held, acted_locked, has_changed}
use Rattle.cuckoo_map.proofs.locked.LockedOn.update.Goals as goal

pub update-requires : goal.update-requires
update-requires g c = place_held c.self.inside.whole c.self.view_is (g.Q.Query.name c.args.key) c.key_place-place.result c.key_place-place.ensures.place

pub invariant_of-self : goal.invariant_of-self
invariant_of-self g c =
    acted_locked c.self.invariant c.self.view_is c.key_place-place.result c.key_place-place.ensures.s (g.Q.Query.name c.args.key) c.update.new.held
    (only_stripes c.self.inside.whole c.update.new.held c.update.ensures.stays) (Update c.args.value) (Was c.update.result) c.update.ensures.rest c.update.ensures.call

pub returns-clause-updated : goal.returns-clause-updated
returns-clause-updated g c =
    let changed = has_changed c.self.invariant c.self.view_is c.key_place-place.result c.key_place-place.ensures.s (g.Q.Query.name c.args.key) c.update.new.held
    (only_stripes c.self.inside.whole c.update.new.held c.update.ensures.stays) in
    changed (Update c.args.value) (Was c.update.result) c.update.ensures.rest c.update.ensures.call

pub returns-clause-others : goal.returns-clause-others
returns-clause-others g c =
    let keeps = changed_keeps_room c.self.invariant c.self.view_is c.key_place-place.result c.key_place-place.ensures.s (g.Q.Query.name c.args.key) c.update.new.held
    (only_stripes c.self.inside.whole c.update.new.held c.update.ensures.stays) in
    keeps (Update c.args.value) (Was c.update.result) c.update.ensures.rest c.update.ensures.call c.update.ensures.free (update_unbinds_none c.args.value (Was c.update.result))
