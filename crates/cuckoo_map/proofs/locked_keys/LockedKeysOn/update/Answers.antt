use Rattle.cuckoo_map.proofs.HeldKeys.{owns_name, acted_keeping}
use Rattle.cuckoo_map.proofs.Told.{told_updated}
use Rattle.cuckoo_map.proofs.locked_keys.LockedKeysOn.update.Goals as goal

pub key_place-place-requires-clause-owned : goal.key_place-place-requires-clause-owned
key_place-place-requires-clause-owned g c = owns_name c.self.invariant c.self.view_is (g.P.Query.name c.args.key) c.requires.named

pub invariant_of-self : goal.invariant_of-self
invariant_of-self g c =
    (told_updated (acted_keeping c.self.invariant c.self.view_is (g.P.Query.name c.args.key) c.requires.named c.key_place-place.ensures.s c.key_place-place.new.held.pass.now
    c.key_place-place.ensures.stays.1 c.key_place-place.ensures.stays.2 c.key_place-place.ensures.same
    c.update.new.held.pass.now c.update.ensures.stays.1 c.update.ensures.stays.2 c.update.ensures.rest c.update.ensures.others)
    c.args.value c.update.result c.update.ensures.call).1.keys

pub returns-clause-room : goal.returns-clause-room
returns-clause-room g c =
    (told_updated (acted_keeping c.self.invariant c.self.view_is (g.P.Query.name c.args.key) c.requires.named c.key_place-place.ensures.s c.key_place-place.new.held.pass.now
    c.key_place-place.ensures.stays.1 c.key_place-place.ensures.stays.2 c.key_place-place.ensures.same
    c.update.new.held.pass.now c.update.ensures.stays.1 c.update.ensures.stays.2 c.update.ensures.rest c.update.ensures.others)
    c.args.value c.update.result c.update.ensures.call).1.room

pub returns-clause-answered : goal.returns-clause-answered
returns-clause-answered g c =
    (told_updated (acted_keeping c.self.invariant c.self.view_is (g.P.Query.name c.args.key) c.requires.named c.key_place-place.ensures.s c.key_place-place.new.held.pass.now
    c.key_place-place.ensures.stays.1 c.key_place-place.ensures.stays.2 c.key_place-place.ensures.same
    c.update.new.held.pass.now c.update.ensures.stays.1 c.update.ensures.stays.2 c.update.ensures.rest c.update.ensures.others)
    c.args.value c.update.result c.update.ensures.call).0
