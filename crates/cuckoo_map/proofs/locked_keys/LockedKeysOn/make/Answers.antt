use Rattle.std.proofs.Common.{sym, subst}
use Rattle.cuckoo_map.specs.LockedKeys.{KeysState, HasRoomForNames}
use Rattle.cuckoo_map.proofs.HeldKeys.{owns_name, without_slot, with_slot, held_as_is, shows_as_is, acted_keeping}
use Rattle.cuckoo_map.proofs.locked_keys.LockedKeysOn.make.Goals as goal

pub key_place-place-requires-clause-owned : goal.key_place-place-requires-clause-owned
key_place-place-requires-clause-owned g c = owns_name c.self.invariant c.self.view_is (g.K.TableKey.name c.args.key) c.requires.named

pub invariant_of-self : goal.invariant_of-self
invariant_of-self g c =
    let call = c.in-Ok.ensures.call in
    (acted_keeping c.self.invariant c.self.view_is (g.K.TableKey.name c.args.key) c.requires.named c.key_place-place.ensures.s c.key_place-place.new.held.pass.now
    c.key_place-place.ensures.stays.1 c.key_place-place.ensures.stays.2 c.key_place-place.ensures.same
    c.make_in.new.held.pass.now c.make_in.ensures.stays.1 c.make_in.ensures.stays.2 c.make_in.ensures.rest c.make_in.ensures.others call.0 call.1 call.3).1.keys

pub returns-in-Ok-clause-room : goal.returns-in-Ok-clause-room
returns-in-Ok-clause-room g c =
    let call = c.in-Ok.ensures.call in
    (acted_keeping c.self.invariant c.self.view_is (g.K.TableKey.name c.args.key) c.requires.named c.key_place-place.ensures.s c.key_place-place.new.held.pass.now
    c.key_place-place.ensures.stays.1 c.key_place-place.ensures.stays.2 c.key_place-place.ensures.same
    c.make_in.new.held.pass.now c.make_in.ensures.stays.1 c.make_in.ensures.stays.2 c.make_in.ensures.rest c.make_in.ensures.others call.0 call.1 call.3).1.room

pub returns-in-Ok-clause-answered : goal.returns-in-Ok-clause-answered
returns-in-Ok-clause-answered g c =
    let call = c.in-Ok.ensures.call in (
      call.0,
      call.1,
      call.2,
      (acted_keeping c.self.invariant c.self.view_is (g.K.TableKey.name c.args.key) c.requires.named c.key_place-place.ensures.s c.key_place-place.new.held.pass.now
          c.key_place-place.ensures.stays.1 c.key_place-place.ensures.stays.2 c.key_place-place.ensures.same
          c.make_in.new.held.pass.now c.make_in.ensures.stays.1 c.make_in.ensures.stays.2 c.make_in.ensures.rest c.make_in.ensures.others call.0 call.1 call.3).0,
    )

pub invariant_of-self-2 : goal.invariant_of-self-2
invariant_of-self-2 g c =
    held_as_is c.self.invariant c.self.view_is (g.K.TableKey.name c.args.key) c.requires.named c.key_place-place.ensures.s c.key_place-place.new.held.pass.now
    c.key_place-place.ensures.stays.1 c.key_place-place.ensures.stays.2 c.key_place-place.ensures.same
    c.make_in.new.held.pass.now c.make_in.ensures.stays.1 c.make_in.ensures.stays.2 c.in-Err.ensures.left

pub returns-clause-room : goal.returns-clause-room
returns-clause-room g c =
    subst (λ (k : KeysState g.row.V.Denot). HasRoomForNames g.K.TableKey.hash k)
    (sym (shows_as_is c.self.invariant c.self.view_is (g.K.TableKey.name c.args.key) c.requires.named c.key_place-place.ensures.s c.key_place-place.new.held.pass.now
    c.key_place-place.ensures.stays.1 c.key_place-place.ensures.stays.2 c.key_place-place.ensures.same
    c.make_in.new.held.pass.now c.make_in.ensures.stays.1 c.make_in.ensures.stays.2 c.in-Err.ensures.left))

pub returns-clause-made : goal.returns-clause-made
returns-clause-made g c room =
    absurd (with_slot c.self.invariant c.self.view_is (g.K.TableKey.name c.args.key) c.requires.named c.key_place-place.ensures.s c.key_place-place.new.held.pass.now
    c.key_place-place.ensures.stays.1 c.key_place-place.ensures.stays.2 c.key_place-place.ensures.same
    room c.in-Err.ensures.full.3)

pub returns-clause-refused : goal.returns-clause-refused
returns-clause-refused g c =
    let full = c.in-Err.ensures.full in
    record {
      key_back = full.0;
      value_back = full.1;
      unchanged = shows_as_is c.self.invariant c.self.view_is (g.K.TableKey.name c.args.key) c.requires.named c.key_place-place.ensures.s c.key_place-place.new.held.pass.now
          c.key_place-place.ensures.stays.1 c.key_place-place.ensures.stays.2 c.key_place-place.ensures.same
          c.make_in.new.held.pass.now c.make_in.ensures.stays.1 c.make_in.ensures.stays.2 c.in-Err.ensures.left;
      full = without_slot c.self.invariant c.self.view_is (g.K.TableKey.name c.args.key) c.requires.named c.key_place-place.ensures.s c.key_place-place.new.held.pass.now
          c.key_place-place.ensures.stays.1 c.key_place-place.ensures.stays.2 c.key_place-place.ensures.same
          full.3;
    }
