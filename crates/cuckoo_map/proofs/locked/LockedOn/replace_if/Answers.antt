use Rattle.ck_model.specs.declared.history.Act.TheVariants.{Find, Change}
use Rattle.ck_model.specs.declared.history.Reply.TheVariants.{Was, Done}
use Rattle.std.specs.Prelude.{Some, None}
use Rattle.cuckoo_map.proofs.Calls.{by_result, by_bool, map_bool, map_answer}
use Rattle.cuckoo_map.proofs.KeptRoom.{changed_keeps_room, find_unbinds_none, change_unbinds_none}
use Rattle.cuckoo_map.proofs.Sessions.{only_stripes, place_held, acted_locked, has_changed}
use Rattle.cuckoo_map.proofs.locked.LockedOn.replace_if.Goals as goal

pub replace_if-replaced-requires-clause-place : goal.replace_if-replaced-requires-clause-place
replace_if-replaced-requires-clause-place g c = place_held c.self.inside.whole c.self.view_is (g.Q.Query.name c.args.key) c.key_place-place.result c.key_place-place.ensures.place

pub invariant_of-self : goal.invariant_of-self
invariant_of-self g c =
    let still = acted_locked c.self.invariant c.self.view_is c.key_place-place.result c.key_place-place.ensures.s (g.Q.Query.name c.args.key) c.replace_if-replaced.new.held
    (only_stripes c.self.inside.whole c.replace_if-replaced.new.held c.replace_if-replaced.ensures.stays) in
    by_result c.replace_if-replaced.result _ _ _ c.replace_if-replaced.ensures.bound c.replace_if-replaced.ensures.unbound
    (λ replaced x. by_bool replaced _ _ _ x.1
    (λ y. still Change (Done x.0 y.0) c.replace_if-replaced.ensures.rest y.2)
    (λ y. still Find (Was (Some x.0)) c.replace_if-replaced.ensures.rest y.1))
    (λ back x. still Find (Was None) c.replace_if-replaced.ensures.rest x.1)

pub returns-clause-replaced : goal.returns-clause-replaced
returns-clause-replaced g c =
    let changed = has_changed c.self.invariant c.self.view_is c.key_place-place.result c.key_place-place.ensures.s (g.Q.Query.name c.args.key) c.replace_if-replaced.new.held
    (only_stripes c.self.inside.whole c.replace_if-replaced.new.held c.replace_if-replaced.ensures.stays) in
    rw (c.ok.ensures.value) (map_answer c.replace_if-replaced.result _ _ _ _ c.replace_if-replaced.ensures.bound c.replace_if-replaced.ensures.unbound
    (λ replaced x. (
      x.0,
      map_bool replaced _ _ _ _ x.1
          (λ y. (y.0, y.1, changed Change (Done x.0 y.0) c.replace_if-replaced.ensures.rest y.2))
          (λ y. (y.0, changed Find (Was (Some x.0)) c.replace_if-replaced.ensures.rest y.1)),
    ))
    (λ back x. changed Find (Was None) c.replace_if-replaced.ensures.rest x.1))

pub returns-clause-others : goal.returns-clause-others
returns-clause-others g c =
    let keeps = changed_keeps_room c.self.invariant c.self.view_is c.key_place-place.result c.key_place-place.ensures.s (g.Q.Query.name c.args.key) c.replace_if-replaced.new.held
    (only_stripes c.self.inside.whole c.replace_if-replaced.new.held c.replace_if-replaced.ensures.stays) in
    by_result c.replace_if-replaced.result _ _ _ c.replace_if-replaced.ensures.bound c.replace_if-replaced.ensures.unbound
    (λ replaced x. by_bool replaced _ _ _ x.1
    (λ y. keeps Change (Done x.0 y.0) c.replace_if-replaced.ensures.rest y.2 c.replace_if-replaced.ensures.free (change_unbinds_none (Done x.0 y.0)))
    (λ y. keeps Find (Was (Some x.0)) c.replace_if-replaced.ensures.rest y.1 c.replace_if-replaced.ensures.free (find_unbinds_none (Was (Some x.0)))))
    (λ back x. keeps Find (Was None) c.replace_if-replaced.ensures.rest x.1 c.replace_if-replaced.ensures.free (find_unbinds_none (Was None)))
