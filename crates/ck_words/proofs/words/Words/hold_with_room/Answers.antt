use Rattle.std.proofs.Common.{rules, ◌≡◌, ◌∙◌, List, sym, subst}
use Rattle.ck_stripe.specs.Stripe.{StripeState}
use Rattle.ck_stripe.specs.Tables.{AreSettled}
use Rattle.ck_core.specs.declared.view.View.{View}
use Rattle.ck_words.specs.Passes.{PassState, IsPassOf}
use Rattle.ck_words.specs.Retries.{Stays}
use Rattle.ck_words.specs.Closing.{IsWhole}
use Rattle.ck_words.proofs.Staying.{stays_on}
use Rattle.ck_words.proofs.words.Words.hold_with_room.Goals as goal

pub returns-in_default-with_capacity-clause-stays : goal.returns-in_default-with_capacity-clause-stays
returns-in_default-with_capacity-clause-stays g c =
    let h = c.lock_all.new.pass in
    let r = c.release.new.self.pass.now in
    let view : c.len.new.held.pass.now.view ≡ h.view = c.len.ensures.stays.1 ∙ c.settle_whole.ensures.view in
    let there : r ≡ c.pass-in_default-with_capacity-1.given.0 = search rules in
    rw (← there) (stays_on c.args.pass.now.view h.view r.view c.lock_all.ensures.stays (subst (λ (v : View g.row.V.Denot). Stays v r.view) view c.release.ensures.released.stays))

pub returns-clause-own : goal.returns-clause-own
returns-clause-own g c =
    let p : PassState g.row.V.Denot = c.settle_whole.new.pass in
    let q : PassState g.row.V.Denot = c.len.new.held.pass.now in
    let same : p ≡ q = λ i. record { table = sym c.len.ensures.stays.2 i; view = sym c.len.ensures.stays.1 i; stripes = sym c.len.ensures.same i } in
    let there : q ≡ c.in-Ok.pass-1-own.given.0 = search rules in
    rw (← there) (subst (λ (x : PassState g.row.V.Denot). IsPassOf c.args.self.now x) same c.settle_whole.ensures.own)

pub returns-clause-stays : goal.returns-clause-stays
returns-clause-stays g c =
    let view : c.len.new.held.pass.now.view ≡ c.lock_all.new.pass.view = c.len.ensures.stays.1 ∙ c.settle_whole.ensures.view in
    let there : c.len.new.held.pass.now ≡ c.in-Ok.pass-1-own.given.0 = search rules in
    rw (← there) (subst (λ (v : View g.row.V.Denot). Stays c.args.pass.now.view v) (sym view) c.lock_all.ensures.stays)

pub returns-clause-whole : goal.returns-clause-whole
returns-clause-whole g c =
    let p : PassState g.row.V.Denot = c.settle_whole.new.pass in
    let q : PassState g.row.V.Denot = c.len.new.held.pass.now in
    let same : p ≡ q = λ i. record { table = sym c.len.ensures.stays.2 i; view = sym c.len.ensures.stays.1 i; stripes = sym c.len.ensures.same i } in
    let there : q ≡ c.in-Ok.pass-1-own.given.0 = search rules in
    rw (← there) (subst (λ (x : PassState g.row.V.Denot). IsWhole g.K.TableKey.hash c.args.self.now.settings x) same c.settle_whole.ensures.whole)

pub returns-clause-settled : goal.returns-clause-settled
returns-clause-settled g c =
    let there : c.len.new.held.pass.now ≡ c.in-Ok.pass-1-own.given.0 = search rules in
    rw (← there) (subst (λ (ss : List (StripeState g.row.V.Denot)). AreSettled ss) (sym c.len.ensures.same) c.settle_whole.ensures.settled)
