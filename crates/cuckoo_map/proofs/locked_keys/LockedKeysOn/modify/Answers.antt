use Rattle.ck_model.specs.declared.history.Act.TheVariants.{Change}
use Rattle.ck_model.specs.declared.history.Reply.TheVariants.{Done, Absent}
use Rattle.cuckoo_map.proofs.Calls.{by_result, map_answer}
use Rattle.cuckoo_map.proofs.HeldKeys.{owns_name, acted_keeping}
use Rattle.cuckoo_map.proofs.locked_keys.LockedKeysOn.modify.Goals as goal

pub key_place-place-requires-clause-owned : goal.key_place-place-requires-clause-owned
key_place-place-requires-clause-owned g c = owns_name c.self.invariant c.self.view_is (g.P.Query.name c.args.key) c.requires.named

pub invariant_of-self : goal.invariant_of-self
invariant_of-self g c =
    let told = acted_keeping c.self.invariant c.self.view_is (g.P.Query.name c.args.key) c.requires.named c.key_place-place.ensures.s c.key_place-place.new.held.pass.now
    c.key_place-place.ensures.stays.1 c.key_place-place.ensures.stays.2 c.key_place-place.ensures.same
    c.modify-answer.new.held.pass.now c.modify-answer.ensures.stays.1 c.modify-answer.ensures.stays.2 c.modify-answer.ensures.rest c.modify-answer.ensures.others in
    by_result c.modify-answer.result _ _ _ c.modify-answer.ensures.bound c.modify-answer.ensures.unbound
    (λ answer x. (told Change (Done x.0 x.1) x.3).1.keys)
    (λ back x. (told Change Absent x.1).1.keys)

pub returns-clause-room : goal.returns-clause-room
returns-clause-room g c =
    let told = acted_keeping c.self.invariant c.self.view_is (g.P.Query.name c.args.key) c.requires.named c.key_place-place.ensures.s c.key_place-place.new.held.pass.now
    c.key_place-place.ensures.stays.1 c.key_place-place.ensures.stays.2 c.key_place-place.ensures.same
    c.modify-answer.new.held.pass.now c.modify-answer.ensures.stays.1 c.modify-answer.ensures.stays.2 c.modify-answer.ensures.rest c.modify-answer.ensures.others in
    by_result c.modify-answer.result _ _ _ c.modify-answer.ensures.bound c.modify-answer.ensures.unbound
    (λ answer x. (told Change (Done x.0 x.1) x.3).1.room)
    (λ back x. (told Change Absent x.1).1.room)

pub returns-clause-answered : goal.returns-clause-answered
returns-clause-answered g c =
    let told = acted_keeping c.self.invariant c.self.view_is (g.P.Query.name c.args.key) c.requires.named c.key_place-place.ensures.s c.key_place-place.new.held.pass.now
    c.key_place-place.ensures.stays.1 c.key_place-place.ensures.stays.2 c.key_place-place.ensures.same
    c.modify-answer.new.held.pass.now c.modify-answer.ensures.stays.1 c.modify-answer.ensures.stays.2 c.modify-answer.ensures.rest c.modify-answer.ensures.others in
    rw (c.ok.ensures.value) (map_answer c.modify-answer.result _ _ _ _ c.modify-answer.ensures.bound c.modify-answer.ensures.unbound
    (λ answer x. (x.0, x.1, x.2, (told Change (Done x.0 x.1) x.3).0))
    (λ back x. (told Change Absent x.1).0))
