use Rattle.ck_model.specs.declared.history.Act.TheVariants.{Change}
use Rattle.ck_model.specs.declared.history.Reply.TheVariants.{Done, Absent}
use Rattle.cuckoo_map.proofs.Calls.{by_result, map_answer}
use Rattle.cuckoo_map.proofs.KeptRoom.{changed_keeps_room, change_unbinds_none}
use Rattle.cuckoo_map.proofs.Sessions.{only_stripes, place_held, acted_locked, has_changed}
use Rattle.cuckoo_map.proofs.locked.LockedOn.modify.Goals as goal

pub modify-answer-requires-clause-place : goal.modify-answer-requires-clause-place
modify-answer-requires-clause-place g c = place_held c.self.inside.whole c.self.view_is (g.Q.Query.name c.args.key) c.key_place-place.result c.key_place-place.ensures.place

pub invariant_of-self : goal.invariant_of-self
invariant_of-self g c =
    let still = acted_locked c.self.invariant c.self.view_is c.key_place-place.result c.key_place-place.ensures.s (g.Q.Query.name c.args.key) c.modify-answer.new.held
    (only_stripes c.self.inside.whole c.modify-answer.new.held c.modify-answer.ensures.stays) in
    by_result c.modify-answer.result _ _ _ c.modify-answer.ensures.bound c.modify-answer.ensures.unbound
    (λ answer x. still Change (Done x.0 x.1) c.modify-answer.ensures.rest x.3)
    (λ back x. still Change Absent c.modify-answer.ensures.rest x.1)

pub returns-clause-modified : goal.returns-clause-modified
returns-clause-modified g c =
    let changed = has_changed c.self.invariant c.self.view_is c.key_place-place.result c.key_place-place.ensures.s (g.Q.Query.name c.args.key) c.modify-answer.new.held
    (only_stripes c.self.inside.whole c.modify-answer.new.held c.modify-answer.ensures.stays) in
    rw (c.ok.ensures.value) (map_answer c.modify-answer.result _ _ _ _ c.modify-answer.ensures.bound c.modify-answer.ensures.unbound
    (λ answer x. (x.0, x.1, x.2, changed Change (Done x.0 x.1) c.modify-answer.ensures.rest x.3))
    (λ back x. changed Change Absent c.modify-answer.ensures.rest x.1))

pub returns-clause-others : goal.returns-clause-others
returns-clause-others g c =
    let keeps = changed_keeps_room c.self.invariant c.self.view_is c.key_place-place.result c.key_place-place.ensures.s (g.Q.Query.name c.args.key) c.modify-answer.new.held
    (only_stripes c.self.inside.whole c.modify-answer.new.held c.modify-answer.ensures.stays) in
    by_result c.modify-answer.result _ _ _ c.modify-answer.ensures.bound c.modify-answer.ensures.unbound
    (λ answer x. keeps Change (Done x.0 x.1) c.modify-answer.ensures.rest x.3 c.modify-answer.ensures.free (change_unbinds_none (Done x.0 x.1)))
    (λ back x. keeps Change Absent c.modify-answer.ensures.rest x.1 c.modify-answer.ensures.free (change_unbinds_none Absent))
