use Rattle.std.proofs.Common.{refl, subst}
use Rattle.std.proofs.lemmas.Result.{err_from_is_err_and}
use Rattle.ck_words.specs.Passes.{PassState}
use Rattle.cuckoo_map.specs.Refusals.{FindsOwnUnlessFull}
use Rattle.cuckoo_map.proofs.Refusing.{refused_busy, found_own}
use Rattle.cuckoo_map.proofs.table.Table.make_room_ahead.Goals as goal

-- a stripe of the key was found held
pub returns-in_err-spot-clause-refused : goal.returns-in_err-spot-clause-refused
returns-in_err-spot-clause-refused g c =
    let e = err_from_is_err_and c.from_residual.result c.from_residual.ensures.1 in
    rw (e.1, e.2) (refused_busy g.K.TableKey.hash c.args.self.now.settings (g.K.TableKey.name c.args.key.now) c.in_err-spot.field-0.0.0 c.args.pass.now c.lock_key.new.pass c.in_err-spot.ensures.busy)

pub returns-in_err-spot-clause-found : goal.returns-in_err-spot-clause-found
returns-in_err-spot-clause-found g c =
    found_own g.K.TableKey.hash c.args.self.now.settings (g.K.TableKey.name c.args.key.now) c.args.pass.now c.lock_key.new.pass c.lock_key.new.pass c.lock_key.ensures.found refl

-- there is room
pub leave_room-requires-clause-found : goal.leave_room-requires-clause-found
leave_room-requires-clause-found g c =
    found_own g.K.TableKey.hash c.args.self.now.settings (g.K.TableKey.name c.args.key.now) c.of-since.result.value c.find_room.new.pass c.find_room.new.pass c.find_room.ensures.found refl

pub returns-in-Ok-clause-found : goal.returns-in-Ok-clause-found
returns-in-Ok-clause-found g c =
    subst (λ (p : PassState g.row.V.Denot). FindsOwnUnlessFull g.K.TableKey.hash c.args.self.now.settings (g.K.TableKey.name c.args.key.now) p c.leave_room.new.pass) c.of-since.ensures c.leave_room.ensures.found

-- there is none
pub returns-in-Err-clause-found : goal.returns-in-Err-clause-found
returns-in-Err-clause-found g c =
    subst (λ (p : PassState g.row.V.Denot). FindsOwnUnlessFull g.K.TableKey.hash c.args.self.now.settings (g.K.TableKey.name c.args.key.now) p c.make_and_leave_room.new.pass) c.of-since.ensures c.make_and_leave_room.ensures.found
