use Rattle.std.proofs.Common.{rules, ◌≡◌, ◌∙◌, ap}
use Rattle.ck_model.specs.declared.history.Act.TheVariants.{Change}
use Rattle.ck_model.specs.declared.history.Call.TheVariants.{On}
use Rattle.ck_model.specs.declared.history.Reply.TheVariants.{Done, Absent}
use Rattle.cuckoo_map.proofs.Calls.{does, says, by_result, map_answer}
use Rattle.cuckoo_map.proofs.table.Table.modify.Goals as goal

pub commit_query-requires-clause-done : goal.commit_query-requires-clause-done
commit_query-requires-clause-done g c =
    by_result c.modify-answer.result _ _ _ c.modify-answer.ensures.bound c.modify-answer.ensures.unbound
    (λ answer x. (Done x.0 x.1, does (c.modify-answer.ensures.stays.5 ∙ c.self.view_is) c.in_ok-spot.ensures.spot.holds c.modify-answer.new.held.pass.now c.modify-answer.ensures.stays.1 (ap (λ k. On (g.Q.Query.name k) Change) c.of.ensures) (Done x.0 x.1) x.3))
    (λ back x. (Absent, does (c.modify-answer.ensures.stays.5 ∙ c.self.view_is) c.in_ok-spot.ensures.spot.holds c.modify-answer.new.held.pass.now c.modify-answer.ensures.stays.1 (ap (λ k. On (g.Q.Query.name k) Change) c.of.ensures) Absent x.1))

pub returns-clause-queried : goal.returns-clause-queried
returns-clause-queried g c =
    let there : c.commit_query.new.self.pass.now ≡ c.pass-1.given.0 = search rules in
    rw (c.ok.ensures.value, ← there) (record {
      answered = map_answer c.modify-answer.result _ _ _ _ c.modify-answer.ensures.bound c.modify-answer.ensures.unbound
          (λ answer x. (x.0, x.1, x.2, says (c.modify-answer.ensures.stays.5 ∙ c.self.view_is) c.in_ok-spot.ensures.spot.holds c.modify-answer.new.held.pass.now c.modify-answer.ensures.stays.1 (ap (λ k. On (g.Q.Query.name k) Change) c.of.ensures) c.modify-answer.ensures.rest c.commit_query.ensures.committed.doubled c.commit_query.ensures.committed.answered (Done x.0 x.1) x.3))
          (λ back x. says (c.modify-answer.ensures.stays.5 ∙ c.self.view_is) c.in_ok-spot.ensures.spot.holds c.modify-answer.new.held.pass.now c.modify-answer.ensures.stays.1 (ap (λ k. On (g.Q.Query.name k) Change) c.of.ensures) c.modify-answer.ensures.rest c.commit_query.ensures.committed.doubled c.commit_query.ensures.committed.answered Absent x.1);
      busy = tt;
      found = search rules;
    })
