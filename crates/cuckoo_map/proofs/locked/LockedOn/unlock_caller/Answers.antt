use Rattle.std.proofs.Common.{rules, ◌≡◌, ◌^◌, ◌∙◌, refl, sym, ap, subst}
use Rattle.ck_model.specs.declared.history.Reply.TheVariants.{Closed}
use Rattle.ck_model.specs.Counting.{counting}
use Rattle.ck_words.specs.Words.{WordsState}
use Rattle.ck_words.specs.Passes.{EachOf, PassState, numbers_of}
use Rattle.ck_words.specs.Retries.{as_doubled}
use Rattle.ck_words.specs.Holding.{IsDoubledBy}
use Rattle.ck_words.specs.Answering.{session_of}
use Rattle.ck_model.specs.Contents.{layout_of}
use Rattle.ck_model.specs.Sections.{HasAll}
use Rattle.ck_words.specs.Answering.{HasDone, IsAnswered, FollowsSeen}
use Rattle.ck_model.specs.Promise.{Replied}
use Rattle.ck_core.specs.State.{client_of}
use Rattle.cuckoo_map.specs.Callers.{caller_of}
use Rattle.cuckoo_map.specs.Locking.{LockedState, session_call, EndsSession, EndsNotes}
use Rattle.cuckoo_map.proofs.Callers.{keeps_notes}
use Rattle.cuckoo_map.proofs.Sessions.{numbered, each_of, had_all_held, session_done, session_counted}
use Rattle.cuckoo_map.proofs.locked.LockedOn.unlock_caller.Given.{Over}
use Rattle.cuckoo_map.proofs.locked.LockedOn.unlock_caller.Goals as goal

pub lower-pass-requires-clause-numbered : goal.lower-pass-requires-clause-numbered
lower-pass-requires-clause-numbered g c =
    numbered (g.T.TableRef.state c.self.inside.table).settings.s c.self.inside.whole.stripes c.self.invariant.table ∙ ap (λ (w : WordsState). counting 0 (2 ^ w.settings.s)) (sym (c.behind-table.view_is ∙ c.table.ensures))

pub lower-pass-requires-clause-of_table : goal.lower-pass-requires-clause-of_table
lower-pass-requires-clause-of_table g c =
    subst (λ (w : WordsState). EachOf w.settings.s c.self.inside.whole.stripes) (sym (c.behind-table.view_is ∙ c.table.ensures)) (each_of (g.T.TableRef.state c.self.inside.table).settings.s c.self.inside.whole.stripes c.self.invariant.table)

pub invariant_of-guard-clause-numbered : goal.invariant_of-guard-clause-numbered
invariant_of-guard-clause-numbered g c =
    ap (λ (p : PassState g.row.V.Denot). numbers_of p.stripes) c.lower-pass.ensures
    ∙ (numbered (g.T.TableRef.state c.self.inside.table).settings.s c.self.inside.whole.stripes c.self.invariant.table ∙ (ap (λ (w : WordsState). counting 0 (2 ^ w.settings.s)) (sym (c.behind-table.view_is ∙ c.table.ensures)) ∙ sym c.all.ensures.all))

pub commit_session-requires-clause-done : goal.commit_session-requires-clause-done
commit_session-requires-clause-done g c =
    let q = c.lower-pass.result in
    subst (λ (w : WordsState). HasDone g.K.TableKey.hash w.settings (session_of q) Closed q) (sym (c.behind-table.view_is ∙ c.table.ensures))
    (session_done g.K.TableKey.hash (g.T.TableRef.state c.self.inside.table) c.self.inside.whole c.self.invariant q c.lower-pass.ensures)

answered : (g : Over) (c : goal.After-pass-2-1 g) → IsAnswered (session_of c.self.inside.whole) Closed (as_doubled c.self.inside.whole c.commit_session.new.self.pass.now) c.commit_session.new.self.pass.now
answered g c =
    let q = c.lower-pass.result in
    let done = subst (λ (w : WordsState). HasDone g.K.TableKey.hash w.settings (session_of q) Closed q) (sym (c.behind-table.view_is ∙ c.table.ensures))
    (session_done g.K.TableKey.hash (g.T.TableRef.state c.self.inside.table) c.self.inside.whole c.self.invariant q c.lower-pass.ensures) in
    subst (λ (p : PassState g.row.V.Denot). IsAnswered (session_of p) Closed (as_doubled p c.commit_session.new.self.pass.now) c.commit_session.new.self.pass.now) c.lower-pass.ensures (c.commit_session.ensures.committed.answered Closed done)

pub returns-clause-answered : goal.returns-clause-answered
returns-clause-answered g c =
    let there : c.commit_session.new.self.pass.now ≡ c.pass-2-1.given.0 = search rules in
    rw (← there) (subst (λ (x : LockedState g.row.V.Denot). Replied (session_call x) Closed x.caller.client (client_of c.commit_session.new.self.pass.now.view)) c.self.view_is (answered g c).replied)

pub returns-clause-follows : goal.returns-clause-follows
returns-clause-follows g c =
    let q = c.lower-pass.result in
    let h = g.K.TableKey.hash in
    let done = subst (λ (w : WordsState). HasDone h w.settings (session_of q) Closed q) (sym (c.behind-table.view_is ∙ c.table.ensures)) (session_done h (g.T.TableRef.state c.self.inside.table) c.self.inside.whole c.self.invariant q c.lower-pass.ensures) in
    let all : HasAll (layout_of h (g.T.TableRef.state c.self.inside.table).settings) q.view.held = subst (λ (p : PassState g.row.V.Denot). HasAll (layout_of h (g.T.TableRef.state c.self.inside.table).settings) p.view.held) (sym c.lower-pass.ensures) (had_all_held h (g.T.TableRef.state c.self.inside.table) c.self.inside.whole c.self.invariant) in
    let follows = c.commit_session.ensures.committed.follows Closed done (subst (λ (w : WordsState). HasAll (layout_of h w.settings) q.view.held) (sym (c.behind-table.view_is ∙ c.table.ensures)) all) in
    let there : c.commit_session.new.self.pass.now ≡ c.pass-2-1.given.0 = search rules in
    rw (← there) (subst (λ (x : LockedState g.row.V.Denot). EndsSession x (client_of c.commit_session.new.self.pass.now.view)) c.self.view_is
    (subst (λ (p : PassState g.row.V.Denot). FollowsSeen (session_of p) Closed p c.commit_session.new.self.pass.now) c.lower-pass.ensures follows))

pub returns-clause-notes : goal.returns-clause-notes
returns-clause-notes g c =
    let new = c.commit_session.new.self.pass.now in
    let doubled = subst (λ (p : PassState g.row.V.Denot). IsDoubledBy p new) c.lower-pass.ensures c.commit_session.ensures.committed.doubled in
    let there : c.commit_session.new.self.pass.now ≡ c.pass-2-1.given.0 = search rules in
    rw (← there) (subst (λ (x : LockedState g.row.V.Denot). EndsNotes x (caller_of (g.T.TableRef.state c.self.inside.table) new)) c.self.view_is
    (let counted = session_counted g.K.TableKey.hash (g.T.TableRef.state c.self.inside.table) c.self.inside.whole c.self.invariant new doubled in (keeps_notes c.self.inside.whole new refl (answered g c).stays (answered g c).watched (answered g c).decided, counted.0, counted.1)))
