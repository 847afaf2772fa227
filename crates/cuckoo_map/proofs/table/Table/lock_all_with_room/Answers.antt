use Rattle.std.proofs.Common.{rules, ◌≡◌, ◌∙◌, [], append-nil, refl, sym, subst}
use Rattle.ck_model.specs.Paths.{reason_of_lack}
use Rattle.ck_words.proofs.Staying.{stays_same}
use Rattle.ck_refusal.specs.declared.refusal.Why.{Why}
use Rattle.cuckoo_map.specs.Refusals.{IsRefused}
use Rattle.cuckoo_map.proofs.Counted.{changes_none, grown_by}
use Rattle.cuckoo_map.proofs.Grounding.{gives_grounds}
use Rattle.cuckoo_map.proofs.Rooms.{renewed_there, grounds_there, grown_there, refused_there, room_in_all}
use Rattle.cuckoo_map.proofs.table.Table.lock_all_with_room.Goals as goal

-- no room could be made
pub returns-in-Err-clause-refused : goal.returns-in-Err-clause-refused
returns-in-Err-clause-refused g c =
    let hash = g.K.TableKey.hash in
    let w = c.args.self.now in
    let q = g.K.TableKey.name c.args.key.now in
    let p = c.args.pass.now in
    let p1 = c.lock_all.new.pass in
    let p2 = c.make_room_in.new.held.pass.now in
    let z = c.refuse.new.self.pass.now in
    let lack = c.in-Err.lack in
    let is = c.self.view_is in
    let value = c.settings.ensures.value in
    let whole = c.in_ok-lock_all.ensures.whole in
    let view = c.make_room_in.ensures.stays.1 in
    let seeks = c.in-Err.ensures.room in
    let gone = c.refuse.ensures in
    let renewed = renewed_there is value q p1 whole p2 view seeks.no_call in
    let grown = grown_there is value q p1 whole p2 view seeks.no_call c.lock_all.ensures.own.1 c.in_ok-lock_all.ensures.table seeks.held.table seeks.grows in
    let grounds = gives_grounds hash w p p1 p2 z c.lock_all.ensures.stays whole view renewed c.lock_all.ensures.own.1 q (reason_of_lack lack) (grounds_there is value q p1 whole p2 view seeks.no_call lack seeks.refused) gone.refused.seen gone.told gone.doubled in
    let there : z ≡ c.pass-1.given.0 = search rules in
    rw (← there) (subst (λ (why : Why). IsRefused hash w.settings q why p z) (sym c.of.ensures)
    (refused_there p p1 p2 c.lock_all.ensures.stays view hash w.settings q _ lack z gone.refused grounds
    (grown_by p2 p2 z refl (changes_none _ _ refl) gone.doubled p2 grown (stays_same p2.view) ([], gone.refused.seen ∙ sym (append-nil p2.view.seen)))))

pub returns-clause-held : goal.returns-clause-held
returns-clause-held g c =
    let hash = g.K.TableKey.hash in
    let q = g.K.TableKey.name c.args.key.now in
    let p1 = c.lock_all.new.pass in
    let p2 = c.make_room_in.new.held.pass.now in
    let seeks = c.in_default.ensures.room in
    let t = c.in_ok-lock_all.ensures in
    let there : p2 ≡ c.pass-in_default-1.given.0 = search rules in
    rw (← there) (room_in_all c.self.view_is c.settings.ensures.value q p1 t.whole p2 c.make_room_in.ensures.stays.1 seeks.no_call c.args.pass.now t.stays seeks.held seeks.room t.own.1 t.table seeks.grows)
