use Rattle.ck_model.specs.declared.history.Act.TheVariants.{Change}
use Rattle.ck_model.specs.declared.history.Reply.TheVariants.{Done, Absent}
use Rattle.cuckoo_map.proofs.Calls.{by_bool, map_bool}
use Rattle.cuckoo_map.proofs.KeptRoom.{changed_keeps_room, change_unbinds_none}
use Rattle.cuckoo_map.proofs.Sessions.{only_stripes, place_held, acted_locked, has_changed}
use Rattle.cuckoo_map.proofs.locked.LockedOn.update_fn.Goals as goal

pub update_fn-requires-clause-place : goal.update_fn-requires-clause-place
update_fn-requires-clause-place g c = place_held c.self.inside.whole c.self.view_is (g.Q.Query.name c.args.key) c.key_place-place.result c.key_place-place.ensures.place

pub invariant_of-self : goal.invariant_of-self
invariant_of-self g c =
    let still = acted_locked c.self.invariant c.self.view_is c.key_place-place.result c.key_place-place.ensures.s (g.Q.Query.name c.args.key) c.update_fn.new.held
    (only_stripes c.self.inside.whole c.update_fn.new.held c.update_fn.ensures.stays) in
    by_bool c.update_fn.result _ _ _ c.update_fn.ensures.call
    (λ x. still Change (Done x.0 x.1) c.update_fn.ensures.rest x.3)
    (λ x. still Change Absent c.update_fn.ensures.rest x)

pub returns-clause-changed : goal.returns-clause-changed
returns-clause-changed g c =
    let changed = has_changed c.self.invariant c.self.view_is c.key_place-place.result c.key_place-place.ensures.s (g.Q.Query.name c.args.key) c.update_fn.new.held
    (only_stripes c.self.inside.whole c.update_fn.new.held c.update_fn.ensures.stays) in
    map_bool c.update_fn.result _ _ _ _ c.update_fn.ensures.call
    (λ x. (x.0, x.1, x.2, changed Change (Done x.0 x.1) c.update_fn.ensures.rest x.3))
    (λ x. changed Change Absent c.update_fn.ensures.rest x)

pub returns-clause-others : goal.returns-clause-others
returns-clause-others g c =
    let keeps = changed_keeps_room c.self.invariant c.self.view_is c.key_place-place.result c.key_place-place.ensures.s (g.Q.Query.name c.args.key) c.update_fn.new.held
    (only_stripes c.self.inside.whole c.update_fn.new.held c.update_fn.ensures.stays) in
    by_bool c.update_fn.result _ _ _ c.update_fn.ensures.call
    (λ x. keeps Change (Done x.0 x.1) c.update_fn.ensures.rest x.3 c.update_fn.ensures.free (change_unbinds_none (Done x.0 x.1)))
    (λ x. keeps Change Absent c.update_fn.ensures.rest x c.update_fn.ensures.free (change_unbinds_none Absent))
