use Rattle.std.proofs.Common.{◌≡◌, ◌+◌, ◌-◌, ◌^◌, ◌<◌, false, ◌∙◌, sym, ap, subst}
use Rattle.std.specs.List.Sorted.{IsPermutation}
use Rattle.ck_model.specs.declared.contents.Content.{Content}
use Rattle.ck_model.specs.Contents.{pairs_in}
use Rattle.ck_stripe.specs.Doubling.{SendsEach}
use Rattle.ck_stripe.specs.Stripe.{StripeState}
use Rattle.ck_stripe.proofs.Doubled.{pairs_doubled, sends_doubled}
use Rattle.ck_stripe.proofs.Stored.{formed_now, reserved_blank, now_raised, kept_raised}
use Rattle.ck_stripe.proofs.stripe.Stripe.double.Goals as goal

pub take-blank-requires : goal.take-blank-requires
take-blank-requires g c =
    reserved_blank c.self.inside c.self.invariant
    (subst (λ (w : StripeState g.row.V.Denot). w.room ≡ 2 ^ (w.content.power + 1 - w.s)) (sym c.self.view_is) c.requires.reserved)

pub invariant_of-self : goal.invariant_of-self
invariant_of-self g c =
    kept_raised g.K.TableKey.hash c.self.inside c.self.invariant c.args.self.now c.self.view_is c.requires.settled c.take-blank.result c.take-blank.ensures.blank c.put.new.self c.put.ensures
    (subst (λ n. n < 26) (sym (ap (λ (w : StripeState g.row.V.Denot). w.content.power) c.self.view_is)) c.requires.power)

pub returns-clause-content : goal.returns-clause-content
returns-clause-content g c =
    ap (λ (w : StripeState g.row.V.Denot). w.content) (now_raised g.K.TableKey.hash c.self.inside c.self.invariant c.args.self.now c.self.view_is c.requires.settled c.take-blank.result c.take-blank.ensures.blank c.put.new.self c.put.ensures)

pub returns-clause-rest : goal.returns-clause-rest
returns-clause-rest g c =
    let now : StripeState g.row.V.Denot = c.args.self.now in
    now_raised g.K.TableKey.hash c.self.inside c.self.invariant c.args.self.now c.self.view_is c.requires.settled c.take-blank.result c.take-blank.ensures.blank c.put.new.self c.put.ensures
    ∙ ap (λ (content : Content g.row.V.Denot). record { number = now.number; s = now.s; content = content; settled = false; room = now.room }) (sym (returns-clause-content g c))

pub returns-clause-pairs : goal.returns-clause-pairs
returns-clause-pairs g c =
    subst (λ (content : Content g.row.V.Denot). IsPermutation (pairs_in c.args.self.now.content) (pairs_in content)) (sym (returns-clause-content g c))
    (pairs_doubled g.K.TableKey.hash c.args.self.now.s c.args.self.now.number c.args.self.now.content)

pub returns-clause-sends : goal.returns-clause-sends
returns-clause-sends g c =
    let shaped = (formed_now g.K.TableKey.hash c.self.inside c.self.invariant c.args.self.now c.self.view_is).shaped in
    subst (λ (content : Content g.row.V.Denot). SendsEach g.K.TableKey.hash c.args.self.now.s c.args.self.now.number c.args.self.now.content content) (sym (returns-clause-content g c))
    (sends_doubled g.K.TableKey.hash c.args.self.now.s c.args.self.now.number c.args.self.now.content shaped.least shaped.rows)
