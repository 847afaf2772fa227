use Rattle.std.proofs.Common.{rules, ◌≡◌, ◌∙◌, [], append-nil, refl, sym, subst}
use Rattle.ck_refusal.specs.declared.refusal.Why.{Why}
use Rattle.std.proofs.lemmas.Result.{err_from_is_err_and}
use Rattle.ck_model.specs.Paths.{reason_of_lack}
use Rattle.cuckoo_map.specs.Refusals.{IsStripeIn, IsRefused}
use Rattle.cuckoo_map.proofs.Refusing.{refused_among}
use Rattle.cuckoo_map.proofs.Grounding.{gives_grounds}
use Rattle.ck_words.proofs.Staying.{stays_same}
use Rattle.cuckoo_map.proofs.Counted.{changes_none, grown_by}
use Rattle.cuckoo_map.proofs.Rooms.{refused_there}
use Rattle.cuckoo_map.proofs.table.Table.make_room_in_all.Goals as goal

-- a stripe was found held
pub returns-in_err-lock_all-clause-refused : goal.returns-in_err-lock_all-clause-refused
returns-in_err-lock_all-clause-refused g c =
    let set = c.args.self.now.settings in
    let q = g.K.TableKey.name c.args.key.now in
    let e = err_from_is_err_and c.from_residual.result c.from_residual.ensures.1 in
    rw (e.1, e.2) (refused_among (IsStripeIn set) g.K.TableKey.hash set (λ t l. l) q c.in_err-lock_all.field-0.0.0 c.args.pass.now c.lock_all.new.pass c.in_err-lock_all.ensures.busy)

pub returns-in-Err-clause-refused : goal.returns-in-Err-clause-refused
returns-in-Err-clause-refused g c =
    let hash = g.K.TableKey.hash in
    let w = c.args.self.now in
    let set = w.settings in
    let q = g.K.TableKey.name c.args.key.now in
    let p = c.args.pass.now in
    let p1 = c.lock_all.new.pass in
    let p2 = c.make_room_held.new.pass in
    let z = c.refuse.new.self.pass.now in
    let lack = c.in-Err.lack in
    let grounds = gives_grounds hash w p p1 p2 z c.lock_all.ensures.stays c.in_ok-lock_all.ensures.whole c.make_room_held.ensures.view c.make_room_held.ensures.renewed
    c.lock_all.ensures.own.1 q (reason_of_lack lack) c.in-Err.ensures.grounds c.refuse.ensures.refused.seen c.refuse.ensures.told c.refuse.ensures.doubled in
    let there : z ≡ c.pass-1.given.0 = search rules in
    rw (← there) (subst (λ (why : Why). IsRefused hash set q why p z) (sym c.of.ensures)
    (refused_there p p1 p2 c.lock_all.ensures.stays c.make_room_held.ensures.view hash set q _ lack z c.refuse.ensures.refused grounds
    (grown_by p2 p2 z refl (changes_none _ _ refl) c.refuse.ensures.doubled p2 c.make_room_held.ensures.grown (stays_same p2.view) ([], c.refuse.ensures.refused.seen ∙ sym (append-nil p2.view.seen)))))
