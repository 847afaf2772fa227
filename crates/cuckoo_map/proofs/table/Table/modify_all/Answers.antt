use Rattle.std.proofs.Common.{rules, ◌≡◌}
use Rattle.cuckoo_map.proofs.HeldKeys.{holds_keys, session_done, session_ends, session_answered}
use Rattle.cuckoo_map.proofs.table.Table.modify_all.Goals as goal

pub modify_held-answer-requires-clause-held : goal.modify_held-answer-requires-clause-held
modify_held-answer-requires-clause-held g c = holds_keys c.args.pass.now c.lock_different.new.pass c.requires.caller c.lock_different.ensures.own c.in_ok-stripes.ensures.different c.in_ok-stripes.ensures.held

pub commit_session_on-requires-clause-done : goal.commit_session_on-requires-clause-done
commit_session_on-requires-clause-done g c = session_done c.self.view_is c.modify_held-answer.ensures.held

pub returns-clause-caller : goal.returns-clause-caller
returns-clause-caller g c =
    let there : c.commit_session_on.new.self.pass.now ≡ c.pass-1.given.0 = search rules in
    rw (← there) (session_ends c.self.view_is c.modify_held-answer.ensures.held c.commit_session_on.ensures.committed)

pub returns-clause-modified : goal.returns-clause-modified
returns-clause-modified g c =
    let there : c.commit_session_on.new.self.pass.now ≡ c.pass-1.given.0 = search rules in
    let e = c.modify_held-answer.ensures in
    rw (← there) (session_answered c.self.view_is e.held c.commit_session_on.ensures.committed c.args.pass.now c.lock_different.new.pass c.in_ok-stripes.ensures.held e.stays c.lock_different.ensures.found c.modify_held-answer.result.0 e.modified)
