use Rattle.std.proofs.Common.{rules, ◌≡◌, ◌∙◌}
use Rattle.ck_model.specs.declared.history.Act.TheVariants.{Update}
use Rattle.ck_model.specs.declared.history.Call.TheVariants.{On}
use Rattle.ck_model.specs.declared.history.Reply.TheVariants.{Was}
use Rattle.cuckoo_map.proofs.Calls.{ap2, does, says}
use Rattle.cuckoo_map.proofs.table.Table.update.Goals as goal

pub commit_query-requires-clause-done : goal.commit_query-requires-clause-done
commit_query-requires-clause-done g c = (Was c.update-old.result, does (c.update-old.ensures.stays.5 ∙ c.self.view_is) c.in-Ok.ensures.spot.holds c.update-old.new.held.pass.now c.update-old.ensures.stays.1 (ap2 (λ k v. On (g.Q.Query.name k) (Update v)) c.of.ensures c.of-2.ensures) (Was c.update-old.result) c.update-old.ensures.call)

pub returns-clause-answered : goal.returns-clause-answered
returns-clause-answered g c =
    let there : c.commit_query.new.self.pass.now ≡ c.pass-1.given.0 = search rules in
    rw (← there) (says (c.update-old.ensures.stays.5 ∙ c.self.view_is) c.in-Ok.ensures.spot.holds c.update-old.new.held.pass.now c.update-old.ensures.stays.1 (ap2 (λ k v. On (g.Q.Query.name k) (Update v)) c.of.ensures c.of-2.ensures) c.update-old.ensures.rest c.commit_query.ensures.committed.doubled c.commit_query.ensures.committed.answered (Was c.update-old.result) c.update-old.ensures.call)
