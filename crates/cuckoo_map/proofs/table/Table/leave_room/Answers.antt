use Rattle.std.proofs.Common.{rules, ◌≡◌, ◌∙◌, [], append-nil, refl, sym, subst}
use Rattle.ck_words.specs.Words.{WordsState}
use Rattle.ck_words.specs.Passes.{IsPassOf}
use Rattle.ck_words.specs.Renewing.{HasRenewed}
use Rattle.ck_words.proofs.Staying.{stays_then}
use Rattle.cuckoo_map.proofs.Counted.{changes_none, grown_by, counting_as, stays_counting}
use Rattle.cuckoo_map.proofs.Refusing.{found_since}
use Rattle.cuckoo_map.proofs.table.Table.leave_room.Goals as goal

pub renew-requires-clause-renewed : goal.renew-requires-clause-renewed
renew-requires-clause-renewed g c = subst (λ (w : WordsState). HasRenewed g.K.TableKey.hash w.settings c.args.pass.now) (sym c.self.view_is) c.requires.room.held.renewed

pub returns-clause-caller : goal.returns-clause-caller
returns-clause-caller g c =
    let z = c.renew.new.self.pass.now in
    let since = c.requires.since in
    let stays = c.requires.room.stays in
    let home = c.renew.ensures.released in
    let there : z ≡ c.pass-1.given.0 = search rules in
    rw (← there) (record {
      own = subst (λ (w : WordsState). IsPassOf w z) c.self.view_is home.own;
      idle = home.idle;
      alone = home.stays.others ∙ (stays.others ∙ since.alone);
      number = (since.number.0, home.stays.by ∙ (stays.by ∙ since.number.1), since.number.2);
    })

pub returns-clause-made : goal.returns-clause-made
returns-clause-made g c =
    let p = c.args.since.value in
    let p1 = c.args.pass.now in
    let z = c.renew.new.self.pass.now in
    let room = c.requires.room in
    let home = c.renew.ensures.released in
    let there : z ≡ c.pass-1.given.0 = search rules in
    rw (← there) (record {
      more = room.more;
      own = room.own;
      stays = stays_then room.more [] (counting_as z.view p.view) (counting_as z.view p1.view) z.view (stays_counting z.view room.stays) home.stays;
      grown = grown_by p1 p1 z refl (changes_none _ _ refl) c.renew.ensures.doubled p room.held.grown room.stays ([], home.seen ∙ sym (append-nil p1.view.seen));
    })

pub returns-clause-found : goal.returns-clause-found
returns-clause-found g c =
    let z = c.renew.new.self.pass.now in
    let home = c.renew.ensures.released in
    let there : z ≡ c.pass-1.given.0 = search rules in
    rw (← there) (found_since g.K.TableKey.hash c.args.self.now.settings (g.K.TableKey.name c.args._key.now) c.args.since.value c.args.pass.now z c.requires.found home.found home.stays.no_slot)
