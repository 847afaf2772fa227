use Rattle.std.proofs.Common.{rules, ◌≡◌, ◌∙◌, ap}
use Rattle.std.specs.Fn.{FnOnceReturnsAt}
use Rattle.ck_model.specs.declared.history.Act.TheVariants.{Change}
use Rattle.ck_model.specs.declared.history.Call.TheVariants.{On}
use Rattle.ck_model.specs.Commits.{call_of}
use Rattle.ck_words.specs.Answering.{IsAnsweredOn}
use Rattle.cuckoo_map.proofs.Calls.{IsStep, chose, replaced, replacing, does, says}
use Rattle.cuckoo_map.proofs.table.Table.replace_bound.Goals as goal

pub commit_query-requires-clause-done : goal.commit_query-requires-clause-done
commit_query-requires-clause-done g c =
    let q = g.Q.Query.name c.args.key in
    let p = c.replace_if-replaced.new.held.pass.now in
    let made = chose q Change _ _ (ap (λ k. On (g.Q.Query.name k) Change) c.of.ensures) c.replace_if-replaced.result c.chosen-said.ensures in
    let did = replaced (λ act. IsStep g.K.TableKey.hash c.in_ok-spot.spot.place.s c.lock_key.new.pass.stripes p.stripes (On q act)) (λ act. call_of g.Q.Query.name c.chosen-said.result ≡ On q act) (λ back. back ≡ c.args.f)
    (FnOnceReturnsAt g.F.FnOnce c.args.f) c.replace_if-replaced.result made c.replace_if-replaced.ensures.bound c.replace_if-replaced.ensures.unbound in
    (did.1, does (c.replace_if-replaced.ensures.stays.5 ∙ c.self.view_is) c.in_ok-spot.ensures.spot.holds p c.replace_if-replaced.ensures.stays.1 did.2 did.1 did.3)

pub returns-clause-queried : goal.returns-clause-queried
returns-clause-queried g c =
    let q = g.Q.Query.name c.args.key in
    let p = c.replace_if-replaced.new.held.pass.now in
    let made = chose q Change _ _ (ap (λ k. On (g.Q.Query.name k) Change) c.of.ensures) c.replace_if-replaced.result c.chosen-said.ensures in
    let there : c.commit_query.new.self.pass.now ≡ c.pass-1.given.0 = search rules in
    rw (← there) (record {
      answered = replacing (λ act. IsStep g.K.TableKey.hash c.in_ok-spot.spot.place.s c.lock_key.new.pass.stripes p.stripes (On q act)) (λ act. call_of g.Q.Query.name c.chosen-said.result ≡ On q act) (λ back. back ≡ c.args.f)
          (FnOnceReturnsAt g.F.FnOnce c.args.f) (IsAnsweredOn q c.args.pass.now c.commit_query.new.self.pass.now)
          (λ act named r did. says (c.replace_if-replaced.ensures.stays.5 ∙ c.self.view_is) c.in_ok-spot.ensures.spot.holds p c.replace_if-replaced.ensures.stays.1 named c.replace_if-replaced.ensures.rest c.commit_query.ensures.committed.doubled c.commit_query.ensures.committed.answered r did)
          c.replace_if-replaced.result made c.replace_if-replaced.ensures.bound c.replace_if-replaced.ensures.unbound;
      busy = tt;
      found = search rules;
    })
