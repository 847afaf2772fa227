use Rattle.std.proofs.Common.{rules, ◌≡◌, ◌∙◌, ap, subst}
use Rattle.ck_model.specs.declared.history.Act.TheVariants.{Erase}
use Rattle.ck_model.specs.declared.history.Call.TheVariants.{On}
use Rattle.ck_model.specs.declared.history.Reply.TheVariants.{Was}
use Rattle.ck_words.specs.Passes.{PassState}
use Rattle.cuckoo_map.specs.Holding.{HasSpot}
use Rattle.cuckoo_map.proofs.Calls.{does, says}
use Rattle.cuckoo_map.proofs.table.Table.erase.Goals as goal

pub commit_query-requires-clause-done : goal.commit_query-requires-clause-done
commit_query-requires-clause-done g c = (Was c.erase-value.result, does (c.erase-value.ensures.stays.5 ∙ c.self.view_is) c.spot_in-spot.ensures.spot.holds c.erase-value.new.held.pass.now c.erase-value.ensures.stays.1 (ap (λ k. On (g.Q.Query.name k) Erase) c.of.ensures) (Was c.erase-value.result) c.erase-value.ensures.call)

pub returns-clause-caller : goal.returns-clause-caller
returns-clause-caller g c =
    let there : c.commit_query.new.self.pass.now ≡ c.pass-1.given.0 = search rules in
    let has = subst (λ (p : PassState g.row.V.Denot). HasSpot g.K.TableKey.hash c.args.self.now.settings (g.Q.Query.name c.args.key) c.spot_in-spot.result p c.spot_in-spot.new.pass) c.of-since.ensures c.spot_in-spot.ensures.spot in
    rw (← there) (search rules)

pub returns-clause-queried : goal.returns-clause-queried
returns-clause-queried g c =
    let there : c.commit_query.new.self.pass.now ≡ c.pass-1.given.0 = search rules in
    rw (← there) (rw (← c.of-since.ensures) (record {
      answered = says (c.erase-value.ensures.stays.5 ∙ c.self.view_is) c.spot_in-spot.ensures.spot.holds c.erase-value.new.held.pass.now c.erase-value.ensures.stays.1 (ap (λ k. On (g.Q.Query.name k) Erase) c.of.ensures) c.erase-value.ensures.rest c.commit_query.ensures.committed.doubled c.commit_query.ensures.committed.answered (Was c.erase-value.result) c.erase-value.ensures.call;
      busy = tt;
      found = search rules;
    }))
