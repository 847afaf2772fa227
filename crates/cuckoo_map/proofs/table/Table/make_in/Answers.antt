use Rattle.std.proofs.Common.{rules, ◌≡◌, ◌∙◌, ap, sym, subst}
use Rattle.ck_core.specs.declared.view.View.{View}
use Rattle.ck_words.specs.Words.{WordsState}
use Rattle.ck_words.specs.Passes.{IsPassOf}
use Rattle.cuckoo_map.proofs.Calls.{replied_seen, does_there, says_there}
use Rattle.cuckoo_map.proofs.Counted.{grown_by}
use Rattle.cuckoo_map.proofs.Refusing.{found_since}
use Rattle.cuckoo_map.proofs.table.Table.make_in.Goals as goal

pub commit-requires-clause-done : goal.commit-requires-clause-done
commit-requires-clause-done g c =
    let made = c.make-answer.ensures.answered in
    (made.1, does_there (c.make-answer.ensures.stays.5 ∙ c.self.view_is) c.requires.room c.make-answer.new.held.pass.now c.make-answer.ensures.stays.1 made.3 made.1 made.4)

pub returns-clause-caller : goal.returns-clause-caller
returns-clause-caller g c =
    let z = c.commit.new.self.pass.now in
    let view = c.make-answer.ensures.stays.1 in
    let since = c.requires.since in
    let stays = c.requires.room.stays in
    let there : z ≡ c.pass-1.given.0 = search rules in
    rw (← there) (record {
      own = subst (λ (w : WordsState). IsPassOf w z) (c.make-answer.ensures.stays.5 ∙ c.self.view_is) c.commit.ensures.committed.own;
      idle = c.commit.ensures.committed.idle;
      alone = c.commit.ensures.committed.others ∙ (ap (λ (v : View g.row.V.Denot). v.others) view ∙ (stays.others ∙ since.alone));
      number = (since.number.0, c.commit.ensures.committed.by ∙ (ap (λ (v : View g.row.V.Denot). v.by) view ∙ (stays.by ∙ since.number.1)), since.number.2);
    })

pub returns-clause-answered : goal.returns-clause-answered
returns-clause-answered g c =
    let there : c.commit.new.self.pass.now ≡ c.pass-1.given.0 = search rules in
    let z = c.commit.new.self.pass.now in
    let lent = c.make-answer.new.held.pass.now in
    let made = c.make-answer.ensures.answered in
    let said = says_there (c.make-answer.ensures.stays.5 ∙ c.self.view_is) c.requires.room lent c.make-answer.ensures.stays.1 made.3 c.commit.ensures.committed.answered made.1 made.4 in
    let direct = c.commit.ensures.committed.answered made.1 (does_there (c.make-answer.ensures.stays.5 ∙ c.self.view_is) c.requires.room lent c.make-answer.ensures.stays.1 made.3 made.1 made.4) in
    let grown = grown_by c.args.pass.now lent z c.make-answer.ensures.stays.1 c.make-answer.ensures.rest c.commit.ensures.committed.doubled c.args.since.value c.requires.room.held.grown c.requires.room.stays (replied_seen direct.replied) in
    rw (← there) ((made.0, made.1, made.2, (c.requires.room.more, c.requires.room.own, said, grown)))

pub returns-clause-found : goal.returns-clause-found
returns-clause-found g c =
    let made = c.make-answer.ensures.answered in
    let said = (says_there (c.make-answer.ensures.stays.5 ∙ c.self.view_is) c.requires.room c.make-answer.new.held.pass.now c.make-answer.ensures.stays.1 made.3 c.commit.ensures.committed.answered made.1 made.4).stays.no_slot in
    let there : c.commit.new.self.pass.now ≡ c.pass-1.given.0 = search rules in
    rw (← there) (found_since g.K.TableKey.hash c.args.self.now.settings (g.K.TableKey.name c.args.key) c.args.since.value c.args.pass.now c.commit.new.self.pass.now c.requires.found (search rules) (said ∙ sym c.requires.room.stays.no_slot))
