use Rattle.std.proofs.Common.{refl}
use Rattle.cuckoo_map.proofs.HeldKeys.{owns_name, has_room, held_alike}
use Rattle.cuckoo_map.proofs.locked_keys.LockedKeysOn.has_room.Goals as goal

pub has_room_for_all-requires-clause-owned : goal.has_room_for_all-requires-clause-owned
has_room_for_all-requires-clause-owned g c = owns_name c.self.invariant refl

pub invariant_of-self : goal.invariant_of-self
invariant_of-self g c = held_alike c.self.invariant c.self.view_is c.has_room_for_all.new.held.pass.now c.has_room_for_all.ensures.stays.1 c.has_room_for_all.ensures.stays.2 c.has_room_for_all.ensures.same

pub returns-clause-room : goal.returns-clause-room
returns-clause-room g c = has_room c.self.invariant c.self.view_is c.has_room_for_all.result c.has_room_for_all.ensures.room c.has_room_for_all.ensures.no_room
