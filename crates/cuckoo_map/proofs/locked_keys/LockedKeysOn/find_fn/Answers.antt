use Rattle.std.specs.Fn.{FnOnceReturnsAt}
use Rattle.cuckoo_map.proofs.HeldKeys.{owns_name, value_found_by, held_as_is}
use Rattle.cuckoo_map.proofs.locked_keys.LockedKeysOn.find_fn.Goals as goal

pub key_place-place-requires-clause-owned : goal.key_place-place-requires-clause-owned
key_place-place-requires-clause-owned g c = owns_name c.self.invariant c.self.view_is (g.P.Query.name c.args.key) c.requires.named

pub invariant_of-self : goal.invariant_of-self
invariant_of-self g c =
    held_as_is c.self.invariant c.self.view_is (g.P.Query.name c.args.key) c.requires.named c.key_place-place.ensures.s c.key_place-place.new.held.pass.now
    c.key_place-place.ensures.stays.1 c.key_place-place.ensures.stays.2 c.key_place-place.ensures.same
    c.find-found.new.held.pass.now c.find-found.ensures.stays.1 c.find-found.ensures.stays.2 c.find-found.ensures.same

pub returns-clause-answered : goal.returns-clause-answered
returns-clause-answered g c =
    value_found_by c.self.invariant c.self.view_is (g.P.Query.name c.args.key) c.requires.named c.key_place-place.ensures.s c.key_place-place.new.held.pass.now
    c.key_place-place.ensures.stays.1 c.key_place-place.ensures.stays.2 c.key_place-place.ensures.same
    _ (FnOnceReturnsAt g.F.FnOnce c.args.f) c.find-found.new.held.pass.now.stripes c.find-found.result.0 c.find-found.ensures.bound c.find-found.ensures.unbound
