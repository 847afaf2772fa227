use Rattle.std.proofs.Common.{rules, ◌≡◌, ◌∙◌, ap}
use Rattle.std.specs.Fn.{FnOnceReturnsAt}
use Rattle.ck_model.specs.declared.history.Act.TheVariants.{Erase}
use Rattle.ck_model.specs.declared.history.Call.TheVariants.{On}
use Rattle.ck_model.specs.Commits.{call_of}
use Rattle.ck_words.specs.Answering.{IsAnsweredOn}
use Rattle.cuckoo_map.proofs.Calls.{IsStep, chose, erased, erasing, does, says}
use Rattle.cuckoo_map.proofs.table.Table.erase_bound.Goals as goal

pub commit_query-requires-clause-done : goal.commit_query-requires-clause-done
commit_query-requires-clause-done g c =
    let q = g.Q.Query.name c.args.key in
    let p = c.erase_fn-gone.new.held.pass.now in
    let made = chose q Erase _ _ (ap (λ k. On (g.Q.Query.name k) Erase) c.of.ensures) c.erase_fn-gone.result c.chosen-said.ensures in
    let did = erased (λ act. IsStep g.K.TableKey.hash c.in_ok-spot.spot.place.s c.lock_key.new.pass.stripes p.stripes (On q act)) (λ act. call_of g.Q.Query.name c.chosen-said.result ≡ On q act) (λ back. back ≡ c.args.f)
    (FnOnceReturnsAt g.F.FnOnce c.args.f) _ c.erase_fn-gone.result made c.erase_fn-gone.ensures.bound c.erase_fn-gone.ensures.unbound in
    (did.1, does (c.erase_fn-gone.ensures.stays.5 ∙ c.self.view_is) c.in_ok-spot.ensures.spot.holds p c.erase_fn-gone.ensures.stays.1 did.2 did.1 did.3)

pub returns-clause-queried : goal.returns-clause-queried
returns-clause-queried g c =
    let q = g.Q.Query.name c.args.key in
    let p = c.erase_fn-gone.new.held.pass.now in
    let made = chose q Erase _ _ (ap (λ k. On (g.Q.Query.name k) Erase) c.of.ensures) c.erase_fn-gone.result c.chosen-said.ensures in
    let there : c.commit_query.new.self.pass.now ≡ c.pass-1.given.0 = search rules in
    rw (← there) (record {
      answered = erasing (λ act. IsStep g.K.TableKey.hash c.in_ok-spot.spot.place.s c.lock_key.new.pass.stripes p.stripes (On q act)) (λ act. call_of g.Q.Query.name c.chosen-said.result ≡ On q act) (λ back. back ≡ c.args.f)
          (FnOnceReturnsAt g.F.FnOnce c.args.f) _ (IsAnsweredOn q c.args.pass.now c.commit_query.new.self.pass.now)
          (λ act named r did. says (c.erase_fn-gone.ensures.stays.5 ∙ c.self.view_is) c.in_ok-spot.ensures.spot.holds p c.erase_fn-gone.ensures.stays.1 named c.erase_fn-gone.ensures.rest c.commit_query.ensures.committed.doubled c.commit_query.ensures.committed.answered r did)
          c.erase_fn-gone.result made c.erase_fn-gone.ensures.bound c.erase_fn-gone.ensures.unbound;
      busy = tt;
      found = search rules;
    })
