use Rattle.std.proofs.Common.{rules, ◌≡◌, ◌∙◌, None, Some, ap}
use Rattle.ck_model.specs.declared.history.Act.TheVariants.{Find}
use Rattle.ck_model.specs.declared.history.Call.TheVariants.{On}
use Rattle.ck_model.specs.declared.history.Reply.TheVariants.{Was}
use Rattle.cuckoo_map.proofs.Counted.{changes_none}
use Rattle.cuckoo_map.proofs.Calls.{does, says, by_option, map_option}
use Rattle.cuckoo_map.proofs.table.Table.find_in.Goals as goal

pub commit_query-requires-clause-done : goal.commit_query-requires-clause-done
commit_query-requires-clause-done g c =
    by_option c.find-found.result.0 _ _ _ c.find-found.ensures.bound c.find-found.ensures.unbound
    (λ r x. (Was (Some x.0), does (c.find-found.ensures.stays.5 ∙ c.self.view_is) c.requires.spot.holds c.find-found.new.held.pass.now c.find-found.ensures.stays.1 (ap (λ k. On (g.Q.Query.name k) Find) c.of.ensures) (Was (Some x.0)) x.2))
    (λ x. (Was None, does (c.find-found.ensures.stays.5 ∙ c.self.view_is) c.requires.spot.holds c.find-found.new.held.pass.now c.find-found.ensures.stays.1 (ap (λ k. On (g.Q.Query.name k) Find) c.of.ensures) (Was None) x.1))

pub returns-clause-answered : goal.returns-clause-answered
returns-clause-answered g c =
    let there : c.commit_query.new.self.pass.now ≡ c.pass-1.given.0 = search rules in
    rw (← there) (map_option c.find-found.result.0 _ _ _ _ c.find-found.ensures.bound c.find-found.ensures.unbound
    (λ r x. (x.0, x.1, says (c.find-found.ensures.stays.5 ∙ c.self.view_is) c.requires.spot.holds c.find-found.new.held.pass.now c.find-found.ensures.stays.1 (ap (λ k. On (g.Q.Query.name k) Find) c.of.ensures) (changes_none _ _ c.find-found.ensures.same) c.commit_query.ensures.committed.doubled c.commit_query.ensures.committed.answered (Was (Some x.0)) x.2))
    (λ x. says (c.find-found.ensures.stays.5 ∙ c.self.view_is) c.requires.spot.holds c.find-found.new.held.pass.now c.find-found.ensures.stays.1 (ap (λ k. On (g.Q.Query.name k) Find) c.of.ensures) (changes_none _ _ c.find-found.ensures.same) c.commit_query.ensures.committed.doubled c.commit_query.ensures.committed.answered (Was None) x.1))
