use Rattle.std.proofs.Common.{rules, ◌≡◌, ◌∙◌, ℕ, List, inl, inr, refl, sym, subst}
use Rattle.ck_model.specs.declared.history.Call.TheVariants.{ChangeTwo}
use Rattle.ck_model.specs.declared.history.Reply.TheVariants.{DoneTwo, Absent}
use Rattle.ck_stripe.specs.Stripe.{StripeState}
use Rattle.ck_stripe.specs.Stripes.{HaveNoSpare}
use Rattle.ck_section.specs.Places.{HasBoth}
use Rattle.ck_section.proofs.Kept.{no_spare_after}
use Rattle.cuckoo_map.proofs.Calls.{ap2, does, says, by_bool, map_bool}
use Rattle.cuckoo_map.proofs.SeveralKeys.{holds_first}
use Rattle.cuckoo_map.proofs.table.Table.update_two.Goals as goal

pub key_place-place_a-requires-clause-owned : goal.key_place-place_a-requires-clause-owned
key_place-place_a-requires-clause-owned g c =
    let h = c.in_ok-stripes.ensures.held in
    subst (λ (s : ℕ). HasBoth g.K.TableKey.hash s c.lock_two.new.pass.stripes (g.Q.Query.name c.args.a)) (sym h.of_table) (h.owned (g.Q.Query.name c.args.a) (inl refl))

pub key_place-place_b-requires-clause-owned : goal.key_place-place_b-requires-clause-owned
key_place-place_b-requires-clause-owned g c =
    let h = c.in_ok-stripes.ensures.held in
    subst (λ (x : ℕ × List (StripeState g.row.V.Denot)). HasBoth g.K.TableKey.hash x.0 x.1 (g.Q.Query.name c.args.b)) (λ j. (sym h.of_table j, sym c.key_place-place_a.ensures.same j)) (h.owned (g.Q.Query.name c.args.b) (inr (inl refl)))

pub commit_query-requires-clause-no_spare : goal.commit_query-requires-clause-no_spare
commit_query-requires-clause-no_spare g c =
    let same = c.key_place-place_b.ensures.same ∙ c.key_place-place_a.ensures.same in
    no_spare_after c.key_place-place_b.new.held.pass.now.stripes c.update_two-bound.new.held.pass.now.stripes (subst (λ (ss : List (StripeState g.row.V.Denot)). HaveNoSpare ss) (sym same) c.in_ok-stripes.ensures.held.settled.no_spare) c.update_two-bound.ensures.rest

pub commit_query-requires-clause-done : goal.commit_query-requires-clause-done
commit_query-requires-clause-done g c =
    let a = c.key_place-place_a.ensures in
    let b = c.key_place-place_b.ensures in
    let e = c.update_two-bound.ensures in
    let held = holds_first _ _ c.in_ok-stripes.ensures.held a.place a.s c.key_place-place_b.new.held.pass.now (b.same ∙ a.same) (b.stays.1 ∙ a.stays.1) in
    let is = e.stays.5 ∙ (b.stays.5 ∙ (a.stays.5 ∙ c.self.view_is)) in
    let named = ap2 (λ j k. ChangeTwo (g.Q.Query.name j) (g.Q.Query.name k)) c.of.ensures c.of-2.ensures in
    by_bool c.update_two-bound.result _ _ _ e.call
    (λ x. (DoneTwo x.0 x.1 x.2 x.3, does is held c.update_two-bound.new.held.pass.now e.stays.1 named (DoneTwo x.0 x.1 x.2 x.3) x.5))
    (λ x. (Absent, does is held c.update_two-bound.new.held.pass.now e.stays.1 named Absent x))

pub returns-clause-answered : goal.returns-clause-answered
returns-clause-answered g c =
    let there : c.commit_query.new.self.pass.now ≡ c.pass-1.given.0 = search rules in
    let a = c.key_place-place_a.ensures in
    let b = c.key_place-place_b.ensures in
    let e = c.update_two-bound.ensures in
    let done = c.commit_query.ensures.committed in
    let held = holds_first _ _ c.in_ok-stripes.ensures.held a.place a.s c.key_place-place_b.new.held.pass.now (b.same ∙ a.same) (b.stays.1 ∙ a.stays.1) in
    let is = e.stays.5 ∙ (b.stays.5 ∙ (a.stays.5 ∙ c.self.view_is)) in
    let named = ap2 (λ j k. ChangeTwo (g.Q.Query.name j) (g.Q.Query.name k)) c.of.ensures c.of-2.ensures in
    rw (← there) (map_bool c.update_two-bound.result _ _ _ _ e.call
    (λ x. (x.0, x.1, x.2, x.3, x.4, says is held c.update_two-bound.new.held.pass.now e.stays.1 named e.rest done.doubled done.answered (DoneTwo x.0 x.1 x.2 x.3) x.5))
    (λ x. says is held c.update_two-bound.new.held.pass.now e.stays.1 named e.rest done.doubled done.answered Absent x))
