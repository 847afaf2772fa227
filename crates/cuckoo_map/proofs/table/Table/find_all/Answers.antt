use Rattle.std.proofs.Common.{rules, ◌≡◌, ◌∙◌, ℕ, List, map, refl, sym, subst}
use Rattle.ck_model.specs.declared.history.Reply.TheVariants.{Closed}
use Rattle.ck_model.specs.Promise.{bound_in}
use Rattle.ck_model.specs.Contents.{bindings}
use Rattle.ck_stripe.specs.Stripe.{StripeState}
use Rattle.ck_stripe.specs.Stripes.{contents_of, HaveNoSpare}
use Rattle.ck_section.specs.Places.{HasBoth}
use Rattle.ck_words.specs.Words.{WordsState}
use Rattle.ck_words.specs.Passes.{PassState}
use Rattle.ck_words.specs.Answering.{HasDone, HasCommitted, session_on}
use Rattle.cuckoo_map.proofs.HeldKeys.{same_pass, lawful_at, holds_keys, keys_done, ends_keys, has_queried}
use Rattle.cuckoo_map.proofs.table.Table.find_all.Goals as goal

pub find_each-requires-clause-owned : goal.find_each-requires-clause-owned
find_each-requires-clause-owned g c q i =
    let h = c.in_ok-stripes.ensures.held in
    subst (λ (s : ℕ). HasBoth g.K.TableKey.hash s c.lock_different.new.pass.stripes q) (sym h.of_table) (h.owned q i)

pub commit_session_on-requires-clause-no_spare : goal.commit_session_on-requires-clause-no_spare
commit_session_on-requires-clause-no_spare g c = subst (λ (ss : List (StripeState g.row.V.Denot)). HaveNoSpare ss) (sym c.find_each.ensures.same) c.in_ok-stripes.ensures.held.settled.no_spare

pub commit_session_on-requires-clause-done : goal.commit_session_on-requires-clause-done
commit_session_on-requires-clause-done g c =
    let names = map g.Q.Query.name c.args.keys.now in
    let p2 = c.lock_different.new.pass in
    let e = c.find_each.ensures in
    let held = holds_keys c.args.pass.now p2 c.requires.caller c.lock_different.ensures.own c.in_ok-stripes.ensures.different c.in_ok-stripes.ensures.held in
    let same : c.find_each.new.held.pass.now ≡ p2 = same_pass p2 c.find_each.new.held.pass.now e.stays.1 e.stays.2 e.same in
    let table = e.stays.5 ∙ c.self.view_is in
    subst (λ (x : WordsState × PassState g.row.V.Denot). HasDone g.K.TableKey.hash x.0.settings (session_on names x.1) Closed x.1) (λ i. (sym table i, sym same i)) (keys_done p2 held)

pub returns-clause-caller : goal.returns-clause-caller
returns-clause-caller g c =
    let there : c.commit_session_on.new.self.pass.now ≡ c.pass-1.given.0 = sym (c.pass-1.given.1 (search rules)) in
    let names = map g.Q.Query.name c.args.keys.now in
    let p2 = c.lock_different.new.pass in
    let z = c.commit_session_on.new.self.pass.now in
    let e = c.find_each.ensures in
    let held = holds_keys c.args.pass.now p2 c.requires.caller c.lock_different.ensures.own c.in_ok-stripes.ensures.different c.in_ok-stripes.ensures.held in
    let same : c.find_each.new.held.pass.now ≡ p2 = same_pass p2 c.find_each.new.held.pass.now e.stays.1 e.stays.2 e.same in
    let table = e.stays.5 ∙ c.self.view_is in
    let committed = subst (λ (x : WordsState × PassState g.row.V.Denot). HasCommitted g.K.TableKey.hash x.0 (session_on names x.1) x.1 z) (λ i. (table i, same i)) c.commit_session_on.ensures.committed in
    rw (← there) (ends_keys p2 z held committed)

pub returns-clause-looked : goal.returns-clause-looked
returns-clause-looked g c =
    let there : c.commit_session_on.new.self.pass.now ≡ c.pass-1.given.0 = sym (c.pass-1.given.1 (search rules)) in
    let names = map g.Q.Query.name c.args.keys.now in
    let p2 = c.lock_different.new.pass in
    let z = c.commit_session_on.new.self.pass.now in
    let e = c.find_each.ensures in
    let h = c.in_ok-stripes.ensures.held in
    let held = holds_keys c.args.pass.now p2 c.requires.caller c.lock_different.ensures.own c.in_ok-stripes.ensures.different h in
    let same : c.find_each.new.held.pass.now ≡ p2 = same_pass p2 c.find_each.new.held.pass.now e.stays.1 e.stays.2 e.same in
    let table = e.stays.5 ∙ c.self.view_is in
    let committed = subst (λ (x : WordsState × PassState g.row.V.Denot). HasCommitted g.K.TableKey.hash x.0 (session_on names x.1) x.1 z) (λ i. (table i, same i)) c.commit_session_on.ensures.committed in
    let values : c.find_each.new.values ≡ bound_in (bindings (contents_of p2.stripes)) names = e.values c.args.self.now.settings.max (lawful_at held) in
    rw (← there) (has_queried c.args.pass.now p2 p2 z held h refl c.lock_different.ensures.found committed tt (sym values, sym values))
