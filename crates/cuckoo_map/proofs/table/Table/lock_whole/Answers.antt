use Rattle.std.proofs.Common.{ap, sym, subst, ◌∙◌}
use Rattle.ck_stripe.specs.Tables.{IsTable}
use Rattle.ck_core.specs.State.{found_held}
use Rattle.ck_words.specs.Words.{WordsState}
use Rattle.ck_words.specs.Passes.{PassState, IsPassOf}
use Rattle.ck_words.specs.Retries.{Stays}
use Rattle.ck_words.specs.Closing.{IsWhole}
use Rattle.cuckoo_map.specs.Locking.{IsLocked, HasLocked, locked_of}
use Rattle.cuckoo_map.proofs.Sessions.{locked_by, has_locked}
use Rattle.cuckoo_map.proofs.table.Table.lock_whole.Goals as goal

pub returns-in-Ok-clause-locked : goal.returns-in-Ok-clause-locked
returns-in-Ok-clause-locked g c =
    let hash = g.K.TableKey.hash in
    let h = c.in-Ok.ensures in
    let q = c.settle_whole.new.pass in
    let e = c.settle_whole.ensures in
    let is = c.self.view_is in
    let stays = subst (Stays c.args.pass.view) (sym e.view) h.stays in
    let whole = subst (λ (w : WordsState). IsWhole hash w.settings q) is e.whole in
    let own = subst (λ (w : WordsState). IsPassOf w q) is e.own in
    let table = subst (λ (w : WordsState). IsTable w.settings.s q.stripes) is e.table in
    subst (λ (p : PassState g.row.V.Denot). IsLocked hash c.args.self.now p × HasLocked c.args.self.now c.args.pass (locked_of c.args.self.now p)) (sym c.lift.ensures) (
      locked_by hash c.args.self.now c.args.pass q stays whole c.requires own table e.settled,
      has_locked hash c.args.self.now c.args.pass q c.requires stays whole (h.found.0, ap found_held e.view ∙ h.found.1, h.found.2),
    )
