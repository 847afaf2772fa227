use Rattle.std.proofs.Common.{ℕ, ◌<◌, ◌^◌, [], sym, subst}
use Rattle.std.proofs.lemmas.Result.{IfOk-weaker, IfErr-weaker, err_from_is_err_and}
use Rattle.ck_words.specs.Passes.{PassState}
use Rattle.ck_refusal.specs.declared.refusal.Why.TheVariants.{Busy}
use Rattle.cuckoo_map.proofs.Refusing.{refused_among, refused_busy}
use Rattle.cuckoo_map.proofs.Calls.{by_result}
use Rattle.cuckoo_map.proofs.Counted.{loosely}
use Rattle.cuckoo_map.proofs.Displacing.{any_among}
use Rattle.cuckoo_map.proofs.Trying.{HasTried, tried_same, tried_on, tried_again, still_caller, found_since_full, room_after, refused_after}
use Rattle.cuckoo_map.proofs.table.Table.make_room.Given.{Over}
use Rattle.cuckoo_map.proofs.table.Table.make_room.Goals.{else-tries-test, then-tries-test+in_ok-displace_or_prepare+then-not-branch, then-tries-test+in_ok-displace_or_prepare+else-not-branch+in_ok-spot+in-Err+else-round-rounds}
use Rattle.cuckoo_map.proofs.table.Table.make_room.Goals as goal

pub tries-init : goal.tries-init
tries-init g c = record {
  caller = c.requires.caller;
  tried = tried_same (g.K.TableKey.name c.args.key.now) c.args.self.now c.args.pass.now c.requires.caller.own c.requires.caller.idle;
  power = c.requires.power;
}

-- the search or a hop found a stripe held
pub returns-in_err-displace_or_prepare-clause-found : goal.returns-in_err-displace_or_prepare-clause-found
returns-in_err-displace_or_prepare-clause-found g c = λ p full own.
    found_since_full (g.K.TableKey.name c.args.key.now) c.args.self.now g.K.TableKey.hash p c.args.pass.now c.tries.pass c.displace_or_prepare.new.pass full (own.0, own.1) c.tries.invariant.tried [] (loosely c.displace_or_prepare.ensures.back.stays) c.displace_or_prepare.ensures.back.found

pub returns-in_err-displace_or_prepare-clause-refused : goal.returns-in_err-displace_or_prepare-clause-refused
returns-in_err-displace_or_prepare-clause-refused g c =
    let q = g.K.TableKey.name c.args.key.now in
    let set = c.args.self.now.settings in
    let t = c.in_err-displace_or_prepare.field-0.0.0 in
    let e = err_from_is_err_and c.from_residual.result c.from_residual.ensures.1 in
    let busy = refused_among (λ (u : ℕ). u < 2 ^ set.s) g.K.TableKey.hash set (λ u l. l) q t c.tries.pass c.displace_or_prepare.new.pass c.in_err-displace_or_prepare.ensures.busy in
    rw (e.1, e.2) (λ p full own. refused_after q c.args.self.now g.K.TableKey.hash p c.args.pass.now c.tries.pass c.displace_or_prepare.new.pass full (own.0, own.1) c.tries.invariant.tried (Busy t) busy)

-- a stripe of the key was found held
pub returns-in_err-spot-clause-found : goal.returns-in_err-spot-clause-found
returns-in_err-spot-clause-found g c = λ p full own.
    let q = g.K.TableKey.name c.args.key.now in
    let tried = tried_on q c.args.self.now c.args.pass.now c.tries.pass c.displace_or_prepare.new.pass c.tries.invariant.tried c.displace_or_prepare.ensures.back in
    found_since_full q c.args.self.now g.K.TableKey.hash p c.args.pass.now c.displace_or_prepare.new.pass c.lock_key.new.pass full (own.0, own.1) tried [] (loosely c.in_err-spot.ensures.busy.stays) (any_among _ c.displace_or_prepare.new.pass c.lock_key.new.pass c.lock_key.ensures.found)

pub returns-in_err-spot-clause-refused : goal.returns-in_err-spot-clause-refused
returns-in_err-spot-clause-refused g c =
    let q = g.K.TableKey.name c.args.key.now in
    let t = c.in_err-spot.field-0.0.0 in
    let e = err_from_is_err_and c.from_residual-in_err-spot.result c.from_residual-in_err-spot.ensures.1 in
    let tried = tried_on q c.args.self.now c.args.pass.now c.tries.pass c.displace_or_prepare.new.pass c.tries.invariant.tried c.displace_or_prepare.ensures.back in
    let busy = refused_busy g.K.TableKey.hash c.args.self.now.settings q t c.displace_or_prepare.new.pass c.lock_key.new.pass c.in_err-spot.ensures.busy in
    rw (e.1, e.2) (λ p full own. refused_after q c.args.self.now g.K.TableKey.hash p c.args.pass.now c.displace_or_prepare.new.pass c.lock_key.new.pass full (own.0, own.1) tried (Busy t) busy)

-- the key has an entry
pub returns-in-Ok-clause-room : goal.returns-in-Ok-clause-room
returns-in-Ok-clause-room g c = λ p full own.
    let q = g.K.TableKey.name c.args.key.now in
    let r = c.of-since.result.value in
    let tried = subst (HasTried q c.args.self.now c.args.pass.now) (sym c.of-since.ensures) (tried_on q c.args.self.now c.args.pass.now c.tries.pass c.displace_or_prepare.new.pass c.tries.invariant.tried c.displace_or_prepare.ensures.back) in
    room_after q c.args.self.now g.K.TableKey.hash p c.args.pass.now r c.find_room.new.pass full (own.0, own.1) tried c.in-Ok.ensures.room

pub returns-in-Ok-clause-found : goal.returns-in-Ok-clause-found
returns-in-Ok-clause-found g c = λ p full own.
    let q = g.K.TableKey.name c.args.key.now in
    let r = c.of-since.result.value in
    let tried = subst (HasTried q c.args.self.now c.args.pass.now) (sym c.of-since.ensures) (tried_on q c.args.self.now c.args.pass.now c.tries.pass c.displace_or_prepare.new.pass c.tries.invariant.tried c.displace_or_prepare.ensures.back) in
    let room = c.in-Ok.ensures.room in
    found_since_full q c.args.self.now g.K.TableKey.hash p c.args.pass.now r c.find_room.new.pass full (own.0, own.1) tried room.more (loosely room.stays) (any_among _ r c.find_room.new.pass c.find_room.ensures.found)

-- its buckets were full again
pub tries-preserved : goal.tries-preserved
tries-preserved g c =
    let q = g.K.TableKey.name c.args.key.now in
    let w = c.args.self.now in
    let p = c.args.pass.now in
    let r = c.of-since.result.value in
    let z = c.find_room.new.pass in
    let tried = tried_again q w p c.tries.pass c.displace_or_prepare.new.pass r z c.tries.invariant.tried c.displace_or_prepare.ensures.back c.of-since.ensures c.find_room.ensures.own c.in-Err.ensures.idle c.in-Err.ensures.full (any_among _ r z c.find_room.ensures.found) in
    record { caller = still_caller q w p z c.requires.caller tried; tried = tried; power = c.in-Err.ensures.power }

-- all tries were made
spent : (g : Over) (c : goal.After-make_room_in_all-arg-2-1 g) → HasTried (g.K.TableKey.name c.args.key.now) c.args.self.now c.args.pass.now c.tries-test.pass
spent g c =
    let q = g.K.TableKey.name c.args.key.now in
    let w = c.args.self.now in
    let p = c.args.pass.now in
    let Tried : PassState g.row.V.Denot → Type 0 = HasTried q w p in
    elim c.tries-test.branch [
      | else-tries-test x ↦ subst Tried (sym x.pass-is) c.tries.invariant.tried
      | then-tries-test+in_ok-displace_or_prepare+then-not-branch x ↦ subst Tried (sym x.pass-is) (tried_on q w p c.tries.pass x.displace_or_prepare.new.pass c.tries.invariant.tried x.displace_or_prepare.ensures.back)
      | then-tries-test+in_ok-displace_or_prepare+else-not-branch+in_ok-spot+in-Err+else-round-rounds x ↦
          subst Tried (sym x.pass-is)
          (tried_again q w p c.tries.pass x.displace_or_prepare.new.pass x.of-since.result.value x.find_room.new.pass c.tries.invariant.tried x.displace_or_prepare.ensures.back x.of-since.ensures x.find_room.ensures.own x.in-Err.ensures.idle x.in-Err.ensures.full
          (any_among _ x.of-since.result.value x.find_room.new.pass x.find_room.ensures.found))
    ]

pub make_room_in_all-requires : goal.make_room_in_all-requires
make_room_in_all-requires g c = record { caller = still_caller (g.K.TableKey.name c.args.key.now) c.args.self.now c.args.pass.now c.tries-test.pass c.requires.caller (spent g c) }

-- and all stripes were taken
over : (g : Over) (c : goal.After-make_room_in_all g) → HasTried (g.K.TableKey.name c.args.key.now) c.args.self.now c.args.pass.now c.tries-test.pass
over g c =
    let q = g.K.TableKey.name c.args.key.now in
    let w = c.args.self.now in
    let p = c.args.pass.now in
    let Tried : PassState g.row.V.Denot → Type 0 = HasTried q w p in
    elim c.tries-test.branch [
      | else-tries-test x ↦ subst Tried (sym x.pass-is) c.tries.invariant.tried
      | then-tries-test+in_ok-displace_or_prepare+then-not-branch x ↦ subst Tried (sym x.pass-is) (tried_on q w p c.tries.pass x.displace_or_prepare.new.pass c.tries.invariant.tried x.displace_or_prepare.ensures.back)
      | then-tries-test+in_ok-displace_or_prepare+else-not-branch+in_ok-spot+in-Err+else-round-rounds x ↦
          subst Tried (sym x.pass-is)
          (tried_again q w p c.tries.pass x.displace_or_prepare.new.pass x.of-since.result.value x.find_room.new.pass c.tries.invariant.tried x.displace_or_prepare.ensures.back x.of-since.ensures x.find_room.ensures.own x.in-Err.ensures.idle x.in-Err.ensures.full
          (any_among _ x.of-since.result.value x.find_room.new.pass x.find_room.ensures.found))
    ]

pub returns-clause-room : goal.returns-clause-room
returns-clause-room g c =
    IfOk-weaker c.make_room_in_all.result _ _
    (λ room has p full own. room_after (g.K.TableKey.name c.args.key.now) c.args.self.now g.K.TableKey.hash p c.args.pass.now c.tries-test.pass c.make_room_in_all.new.pass full (own.0, own.1) (over g c) has)
    c.make_room_in_all.ensures.room

pub returns-clause-found : goal.returns-clause-found
returns-clause-found g c = λ p full own.
    let q = g.K.TableKey.name c.args.key.now in
    let r = c.tries-test.pass in
    let z = c.make_room_in_all.new.pass in
    let any = any_among _ r z c.make_room_in_all.ensures.found in
    by_result c.make_room_in_all.result _ _ _ c.make_room_in_all.ensures.room c.make_room_in_all.ensures.refused
    (λ room has. found_since_full q c.args.self.now g.K.TableKey.hash p c.args.pass.now r z full (own.0, own.1) (over g c) has.more (loosely has.stays) any)
    (λ why said. found_since_full q c.args.self.now g.K.TableKey.hash p c.args.pass.now r z full (own.0, own.1) (over g c) said.more said.stays any)

pub returns-clause-refused : goal.returns-clause-refused
returns-clause-refused g c =
    IfErr-weaker c.make_room_in_all.result _ _
    (λ why said p full own. refused_after (g.K.TableKey.name c.args.key.now) c.args.self.now g.K.TableKey.hash p c.args.pass.now c.tries-test.pass c.make_room_in_all.new.pass full (own.0, own.1) (over g c) why said)
    c.make_room_in_all.ensures.refused
