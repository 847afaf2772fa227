use Rattle.std.proofs.Common.{rules, ◌≡◌, ◌∙◌, ap}
use Rattle.ck_model.specs.declared.history.Act.TheVariants.{Change}
use Rattle.ck_model.specs.declared.history.Call.TheVariants.{On}
use Rattle.ck_model.specs.declared.history.Reply.TheVariants.{Done, Absent}
use Rattle.cuckoo_map.proofs.Calls.{does, says, by_bool, map_bool}
use Rattle.cuckoo_map.proofs.table.Table.update_fn.Goals as goal

pub commit_query-requires-clause-done : goal.commit_query-requires-clause-done
commit_query-requires-clause-done g c =
    by_bool c.update_fn-bound.result _ _ _ c.update_fn-bound.ensures.call
    (λ x. (Done x.0 x.1, does (c.update_fn-bound.ensures.stays.5 ∙ c.self.view_is) c.in_ok-spot.ensures.spot.holds c.update_fn-bound.new.held.pass.now c.update_fn-bound.ensures.stays.1 (ap (λ k. On (g.Q.Query.name k) Change) c.of.ensures) (Done x.0 x.1) x.3))
    (λ x. (Absent, does (c.update_fn-bound.ensures.stays.5 ∙ c.self.view_is) c.in_ok-spot.ensures.spot.holds c.update_fn-bound.new.held.pass.now c.update_fn-bound.ensures.stays.1 (ap (λ k. On (g.Q.Query.name k) Change) c.of.ensures) Absent x))

pub returns-clause-queried : goal.returns-clause-queried
returns-clause-queried g c =
    let there : c.commit_query.new.self.pass.now ≡ c.pass-1.given.0 = search rules in
    rw (← there) (record {
      answered = map_bool c.update_fn-bound.result _ _ _ _ c.update_fn-bound.ensures.call
          (λ x. (x.0, x.1, x.2, says (c.update_fn-bound.ensures.stays.5 ∙ c.self.view_is) c.in_ok-spot.ensures.spot.holds c.update_fn-bound.new.held.pass.now c.update_fn-bound.ensures.stays.1 (ap (λ k. On (g.Q.Query.name k) Change) c.of.ensures) c.update_fn-bound.ensures.rest c.commit_query.ensures.committed.doubled c.commit_query.ensures.committed.answered (Done x.0 x.1) x.3))
          (λ x. says (c.update_fn-bound.ensures.stays.5 ∙ c.self.view_is) c.in_ok-spot.ensures.spot.holds c.update_fn-bound.new.held.pass.now c.update_fn-bound.ensures.stays.1 (ap (λ k. On (g.Q.Query.name k) Change) c.of.ensures) c.update_fn-bound.ensures.rest c.commit_query.ensures.committed.doubled c.commit_query.ensures.committed.answered Absent x);
      busy = tt;
      found = search rules;
    })
