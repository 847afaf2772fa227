use Rattle.std.proofs.Common.{rules, ◌≡◌, ◌∙◌, ap, subst}
use Rattle.ck_model.specs.Promise.{Name}
use Rattle.ck_words.specs.Passes.{PassState}
use Rattle.cuckoo_map.specs.Locking.{LockedState, locked_of, HasDoubledFor}
use Rattle.cuckoo_map.proofs.Sessions.{only_stripes, acted_locked, has_acted, keeps_power, grows_not}
use Rattle.cuckoo_map.proofs.locked.LockedOn.make.Goals as goal

pub invariant_of-self : goal.invariant_of-self
invariant_of-self g c =
    let call = c.in-Ok.ensures.call in
    acted_locked c.self.invariant c.self.view_is c.key_place-place.result c.key_place-place.ensures.s (g.K.TableKey.name c.args.key) c.make_in.new.held (only_stripes c.self.inside.whole c.make_in.new.held c.make_in.ensures.stays)
    call.0 call.1 c.make_in.ensures.rest call.3

pub returns-in-Ok : goal.returns-in-Ok
returns-in-Ok g c =
    let call = c.in-Ok.ensures.call in
    record {
      answered = (
        call.0,
        call.1,
        call.2,
        has_acted c.self.invariant c.self.view_is c.key_place-place.result c.key_place-place.ensures.s (g.K.TableKey.name c.args.key) c.make_in.new.held (only_stripes c.self.inside.whole c.make_in.new.held c.make_in.ensures.stays)
            call.0 call.1 call.3,
      );
      refused = tt;
      grows = grows_not g.K.TableKey.hash (g.K.TableKey.name c.args.key) c.args.self.now (locked_of (g.T.TableRef.state c.self.inside.table) c.make_in.new.held)
          (keeps_power c.self.invariant c.make_in.new.held (only_stripes c.self.inside.whole c.make_in.new.held c.make_in.ensures.stays) c.self.view_is c.make_in.ensures.rest);
    }

pub returns-in-Err : goal.returns-in-Err
returns-in-Err g c =
    let left : c.make_in.new.held ≡ c.self.inside.whole = λ i. record { table = c.make_in.ensures.stays.0 i; view = c.make_in.ensures.stays.1 i; stripes = c.in-Err.ensures.left i } in
    let same = ap (λ (p : PassState g.row.V.Denot). locked_of (g.T.TableRef.state c.self.inside.table) p) left ∙ c.self.view_is in
    let name = ap (λ (k : g.row.K.Denot). g.K.TableKey.name k) c.in-Err.ensures.full.0 in
    record {
      answered = search rules;
      refused = search rules;
      grows = subst (λ (x : Name × LockedState g.row.V.Denot). HasDoubledFor g.K.TableKey.hash x.0 x.1 c.make_with_room.new.self) (λ j. (name j, same j)) c.make_with_room.ensures.grows;
    }
