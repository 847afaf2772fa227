use Rattle.ck_model.specs.declared.history.Act.TheVariants.{Erase}
use Rattle.ck_model.specs.declared.history.Reply.TheVariants.{Was}
use Rattle.cuckoo_map.proofs.Sessions.{only_stripes, place_held, acted_locked, has_changed, has_room_left}
use Rattle.cuckoo_map.proofs.KeptRoom.{erased_keeps_room}
use Rattle.cuckoo_map.proofs.locked.LockedOn.erase.Goals as goal

pub erase-requires : goal.erase-requires
erase-requires g c = place_held c.self.inside.whole c.self.view_is (g.Q.Query.name c.args.key) c.key_place-place.result c.key_place-place.ensures.place

pub invariant_of-self : goal.invariant_of-self
invariant_of-self g c =
    acted_locked c.self.invariant c.self.view_is c.key_place-place.result c.key_place-place.ensures.s (g.Q.Query.name c.args.key) c.erase.new.held
    (only_stripes c.self.inside.whole c.erase.new.held c.erase.ensures.stays) Erase (Was c.erase.result) c.erase.ensures.rest c.erase.ensures.call

pub returns-clause-erased : goal.returns-clause-erased
returns-clause-erased g c =
    let changed = has_changed c.self.invariant c.self.view_is c.key_place-place.result c.key_place-place.ensures.s (g.Q.Query.name c.args.key) c.erase.new.held
    (only_stripes c.self.inside.whole c.erase.new.held c.erase.ensures.stays) in
    changed Erase (Was c.erase.result) c.erase.ensures.rest c.erase.ensures.call

pub returns-clause-room : goal.returns-clause-room
returns-clause-room g c =
    has_room_left c.self.invariant c.self.view_is c.key_place-place.result c.key_place-place.ensures.s (g.Q.Query.name c.args.key) c.erase.new.held (only_stripes c.self.inside.whole c.erase.new.held c.erase.ensures.stays)
    Erase (Was c.erase.result) c.erase.ensures.rest c.erase.ensures.call c.erase.result c.erase.ensures.room

pub returns-clause-others : goal.returns-clause-others
returns-clause-others g c =
    erased_keeps_room c.self.invariant c.self.view_is c.key_place-place.result c.key_place-place.ensures.s (g.Q.Query.name c.args.key) c.erase.new.held (only_stripes c.self.inside.whole c.erase.new.held c.erase.ensures.stays)
    Erase (Was c.erase.result) c.erase.ensures.rest c.erase.ensures.call c.erase.ensures.free c.erase.result c.erase.ensures.same c.erase.ensures.room
