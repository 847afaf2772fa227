use Rattle.std.proofs.Common.{◌∙◌, sym, ap}
use Rattle.cuckoo_map.specs.Locking.{LockedState, locked_of}
use Rattle.cuckoo_map.proofs.Sessions.{only_stripes, acted_locked, has_acted, acted_since, not_without, keeps_power, grows_since}
use Rattle.cuckoo_map.proofs.locked.LockedOn.make_with_room.Goals as goal

pub unreachable-requires : goal.unreachable-requires
unreachable-requires g c =
    let same = c.key_place-place.ensures.s ∙ sym (ap (λ (l : LockedState g.row.V.Denot). l.caller.table.settings.s) c.self.view_is) in
    not_without g.K.TableKey.hash (g.T.TableRef.state c.self.inside.table) c.self.inside.whole c.self.invariant c.key_place-place.result same (g.K.TableKey.name c.args.key) c.make_room.new.self c.self.view_is
    c.in_default.ensures.room c.in-Err-make_in.ensures.full.3

pub invariant_of-self : goal.invariant_of-self
invariant_of-self g c =
    let call = c.in-Ok.ensures.call in
    acted_locked c.self.invariant c.self.view_is c.key_place-place.result c.key_place-place.ensures.s (g.K.TableKey.name c.args.key) c.make_in.new.held (only_stripes c.self.inside.whole c.make_in.new.held c.make_in.ensures.stays)
    call.0 call.1 c.make_in.ensures.rest call.3

pub returns : goal.returns
returns g c =
    let q = g.K.TableKey.name c.args.key in
    let call = c.in-Ok.ensures.call in
    record {
      answered = (
        call.0,
        call.1,
        call.2,
        acted_since q call.0 call.1 c.args.self.now c.make_room.new.self _ c.make_room.ensures.kept
            (has_acted c.self.invariant c.self.view_is c.key_place-place.result c.key_place-place.ensures.s q c.make_in.new.held (only_stripes c.self.inside.whole c.make_in.new.held c.make_in.ensures.stays) call.0 call.1 call.3),
      );
      refused = tt;
      grows = grows_since g.K.TableKey.hash q c.args.self.now c.make_room.new.self (locked_of (g.T.TableRef.state c.self.inside.table) c.make_in.new.held) c.make_room.ensures.grows
          (keeps_power c.self.invariant c.make_in.new.held (only_stripes c.self.inside.whole c.make_in.new.held c.make_in.ensures.stays) c.self.view_is c.make_in.ensures.rest);
    }
