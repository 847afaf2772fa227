use Rattle.std.proofs.Common.{map, subst}
use Rattle.ck_section.specs.RoomForAll.{HasRoomForAll}
use Rattle.ck_model.specs.Contents.{layout_of}
use Rattle.ck_stripe.specs.Stripes.{contents_of}
use Rattle.ck_words.specs.Words.{WordsState}
use Rattle.ck_words.specs.Passes.{PassState}
use Rattle.cuckoo_map.specs.Callers.{CallerState, caller_of}
use Rattle.cuckoo_map.specs.LockedKeys.{HoldsKeys, HasLockedKeys, keys_of}
use Rattle.cuckoo_map.specs.RoomForKeys.{IsStripeTried, SeeksRoom, RefusesRoom}
use Rattle.cuckoo_map.proofs.Callers.{same_caller, over}
use Rattle.cuckoo_map.proofs.HeldKeys.{holds_keys, has_locked_keys}
use Rattle.cuckoo_map.proofs.RoomForKeys.{goes_without_room}
use Rattle.cuckoo_map.proofs.caller.CallerOn.lock_keys_with_room.Goals as goal

pub invariant_of-result : goal.invariant_of-result
invariant_of-result g c =
    let h = c.in-Ok.ensures.held in
    let p2 = c.lock_with_room.new.pass in
    let names = map (λ k. g.K.TableKey.name k.now) c.args.keys.now in
    subst (λ (w : WordsState). HoldsKeys g.K.TableKey.hash w c.in-Ok.stripes names p2) c.table.ensures (holds_keys h.0 p2 h.2 c.in-Ok.ensures.own c.in-Ok.ensures.different h.4)

pub returns-in-Ok-clause-locked : goal.returns-in-Ok-clause-locked
returns-in-Ok-clause-locked g c =
    let h = c.in-Ok.ensures.held in
    let p = c.self.inside.pass in
    let p2 = c.lock_with_room.new.pass in
    let hash = g.K.TableKey.hash in
    let names = map (λ k. g.K.TableKey.name k.now) c.args.keys.now in
    let w = g.T.TableRef.state c.self.inside.table in (
      h.0,
      h.1,
      over p h.0 c.self.view_is c.self.invariant c.table.ensures h.2 (λ (v : WordsState) (a b : PassState g.row.V.Denot). SeeksRoom hash v.settings names h.1 a h.0) h.3,
      subst (λ (x : CallerState g.row.V.Denot). HasLockedKeys (IsStripeTried hash x.table.settings names h.1) names (caller_of x.table h.0) (keys_of w names p2)) c.self.view_is
          (subst (λ (v : WordsState). HasLockedKeys (IsStripeTried hash v.settings names h.1) names (caller_of v h.0) (keys_of v names p2)) c.table.ensures
          (has_locked_keys _ h.0 p2 h.2 c.in-Ok.ensures.different h.4 h.5)),
    )

pub returns-in-Ok-clause-room : goal.returns-in-Ok-clause-room
returns-in-Ok-clause-room g c =
    let h = c.in-Ok.ensures.held in
    let p2 = c.lock_with_room.new.pass in
    let hash = g.K.TableKey.hash in
    let names = map (λ k. g.K.TableKey.name k.now) c.args.keys.now in
    let held = holds_keys h.0 p2 h.2 c.in-Ok.ensures.own c.in-Ok.ensures.different h.4 in
    subst (λ (w : WordsState). HasRoomForAll (layout_of hash w.settings) (contents_of p2.stripes) names) c.table.ensures (h.6 c.table.result.now.settings.max held.lawful)

pub returns-in-Err-clause-same : goal.returns-in-Err-clause-same
returns-in-Err-clause-same g c =
    let names = map (λ k. g.K.TableKey.name k.now) c.args.keys.now in
    same_caller c.self.inside.pass c.lock_with_room.new.pass c.self.view_is
    (goes_without_room g.K.TableKey.hash c.table.result.now.settings names c.in-Err.why c.self.inside.pass c.lock_with_room.new.pass c.in-Err.ensures.refused).1.by

pub returns-in-Err-clause-refused : goal.returns-in-Err-clause-refused
returns-in-Err-clause-refused g c =
    let names = map (λ k. g.K.TableKey.name k.now) c.args.keys.now in
    over c.self.inside.pass c.lock_with_room.new.pass c.self.view_is c.self.invariant c.table.ensures c.in-Err.ensures.caller
    (λ (w : WordsState) (a b : PassState g.row.V.Denot). RefusesRoom g.K.TableKey.hash w.settings names a b c.in-Err.why) c.in-Err.ensures.refused
