use Rattle.std.proofs.Common.{rules, sym, ◌≡◌}
use Rattle.cuckoo_map.proofs.HeldKeys.{holds_keys, session_done, session_ends, session_answered}
use Rattle.cuckoo_map.proofs.table.Table.update_all.Goals as goal

pub update_held-values-requires : goal.update_held-values-requires
update_held-values-requires g c =
    let held = holds_keys c.args.pass.now c.lock_different.new.pass c.requires.caller c.lock_different.ensures.own c.in_ok-stripes.ensures.different c.in_ok-stripes.ensures.held in
    (search rules, (search rules, (c.requires.some, (c.requires.few, (held, c.requires.call)))))

pub commit_session_on-requires-clause-done : goal.commit_session_on-requires-clause-done
commit_session_on-requires-clause-done g c = session_done c.self.view_is c.update_held-values.ensures.held

pub returns-clause-caller : goal.returns-clause-caller
returns-clause-caller g c =
    let there : c.commit_session_on.new.self.pass.now ≡ c.pass-1.given.0 = sym (c.pass-1.given.1 (search rules)) in
    rw (← there) (session_ends c.self.view_is c.update_held-values.ensures.held c.commit_session_on.ensures.committed)

pub returns-clause-updated : goal.returns-clause-updated
returns-clause-updated g c =
    let there : c.commit_session_on.new.self.pass.now ≡ c.pass-1.given.0 = sym (c.pass-1.given.1 (search rules)) in
    let e = c.update_held-values.ensures in
    rw (← there) (session_answered c.self.view_is e.held c.commit_session_on.ensures.committed c.args.pass.now c.lock_different.new.pass c.in_ok-stripes.ensures.held e.stays c.lock_different.ensures.found c.update_held-values.result.0 e.updated)
