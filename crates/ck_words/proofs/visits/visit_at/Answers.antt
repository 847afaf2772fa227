use Rattle.std.proofs.Common.{rules, ◌≡◌, refl, sym, subst}
use Rattle.ck_stripe.specs.Stripe.{StripeState}
use Rattle.ck_stripe.specs.Stripes.{stripe_at}
use Rattle.ck_words.specs.Passes.{held_in}
use Rattle.ck_words.proofs.Turning.{puts}
use Rattle.ck_words.proofs.visits.visit_at.Goals as goal

pub returns : goal.returns
returns g c =
    let old : StripeState g.row.V.Denot = stripe_at (held_in c.args.seat.now.me.1) c.args.i in
    let same : old ≡ c.in-Some.stripe = search rules in
    let new = c.visit-answer.new.it in
    let does = subst (λ (s : StripeState g.row.V.Denot). g.W.Visitor.does c.args.visitor s c.visit-answer.result new) (sym same) c.visit-answer.ensures in
    let kept = c.requires.keeps c.visit-answer.result new does in
    (new, does, puts c.args.i c.args.t c.args.seat.now c.bring.new.seat c.turn_by.new.seat new new c.bring.ensures kept.0 kept.1 refl c.turn_by.ensures.table c.turn_by.ensures.turned)
