use Rattle.std.proofs.Common.{rules, ◌≡◌, ◌∙◌, map, refl, sym, subst}
use Rattle.ck_core.specs.State.{client_of}
use Rattle.ck_model.specs.declared.history.Reply.TheVariants.{Closed}
use Rattle.ck_model.specs.Promise.{Replied}
use Rattle.ck_words.specs.Words.{WordsState}
use Rattle.ck_words.specs.Answering.{HasDone, HasCommitted, session_on}
use Rattle.cuckoo_map.specs.Callers.{caller_of, KeepsNotes}
use Rattle.cuckoo_map.specs.LockedKeys.{KeysState, keys_call}
use Rattle.cuckoo_map.proofs.Callers.{replies}
use Rattle.cuckoo_map.proofs.HeldKeys.{keys_done, answered_keys}
use Rattle.cuckoo_map.proofs.locked_keys.LockedKeysOn.unlock.Goals as goal

pub commit_session_on-requires-clause-done : goal.commit_session_on-requires-clause-done
commit_session_on-requires-clause-done g c =
    let p = c.self.inside.pass in
    let names = map g.Q.Query.name c.self.inside.keys.now in
    subst (λ (w : WordsState). HasDone g.K.TableKey.hash w.settings (session_on names p) Closed p) (sym (c.behind-table.view_is ∙ c.table.ensures)) (keys_done p c.self.invariant)

pub returns-clause-answered : goal.returns-clause-answered
returns-clause-answered g c =
    let there : c.commit_session_on.new.self.pass.now ≡ c.pass-2-1.given.0 = search rules in
    let p = c.self.inside.pass in
    let z = c.commit_session_on.new.self.pass.now in
    let names = map g.Q.Query.name c.self.inside.keys.now in
    let committed = subst (λ (w : WordsState). HasCommitted g.K.TableKey.hash w (session_on names p) p z) (c.behind-table.view_is ∙ c.table.ensures) c.commit_session_on.ensures.committed in
    let told = replies {w = g.T.TableRef.state c.self.inside.table} p z refl (session_on names p) Closed (answered_keys p z c.self.invariant committed) in
    rw (← there) (subst (λ (k : KeysState g.row.V.Denot). Replied (keys_call k) Closed k.session.caller.client (client_of z.view)) c.self.view_is told.0)

pub returns-clause-notes : goal.returns-clause-notes
returns-clause-notes g c =
    let there : c.commit_session_on.new.self.pass.now ≡ c.pass-2-1.given.0 = search rules in
    let p = c.self.inside.pass in
    let z = c.commit_session_on.new.self.pass.now in
    let names = map g.Q.Query.name c.self.inside.keys.now in
    let committed = subst (λ (w : WordsState). HasCommitted g.K.TableKey.hash w (session_on names p) p z) (c.behind-table.view_is ∙ c.table.ensures) c.commit_session_on.ensures.committed in
    let told = replies {w = g.T.TableRef.state c.self.inside.table} p z refl (session_on names p) Closed (answered_keys p z c.self.invariant committed) in
    rw (← there) (subst (λ (k : KeysState g.row.V.Denot). KeepsNotes k.session.caller (caller_of (g.T.TableRef.state c.self.inside.table) z)) c.self.view_is told.1.1)
