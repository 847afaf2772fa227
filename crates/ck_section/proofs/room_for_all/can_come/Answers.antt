use Rattle.std.proofs.Common.{◌≡◌, List, ◌∙◌, sym, subst}
use Rattle.std.specs.List.{list_any}
use Rattle.ck_stripe.specs.Stripe.{StripeState}
use Rattle.ck_section.proofs.RoomTested.{has_name, may_not, may_by_look}
use Rattle.ck_section.proofs.room_for_all.can_come.Goals as goal

pub returns-then-has_one_of-clause-may : goal.returns-then-has_one_of-clause-may
returns-then-has_one_of-clause-may g c max lawful =
    let old : List (StripeState g.row.V.Denot) = g.H.Held.stripes c.args.held.now in
    let q = g.Q.Query.name c.args.key in
    let place = c.key_place-place in
    may_by_look g.K.TableKey.hash c.args.s max old lawful c.requires.held.one_s q place.result place.ensures.place c.args.at.now c.requires.reach
    (sym c.has_one_of.ensures ∙ c.if-has_one_of.true) c.stands_in.result
    (subst (λ (ss : List (StripeState g.row.V.Denot)). c.stands_in.result ≡ list_any (has_name ss q) c.args.at.now) place.ensures.same c.stands_in.ensures.stands)

pub returns-else-has_one_of-clause-may : goal.returns-else-has_one_of-clause-may
returns-else-has_one_of-clause-may g c max lawful =
    let place = c.key_place-place in
    c.if-has_one_of.false
    ∙ may_not g.K.TableKey.hash c.args.s max (g.H.Held.stripes c.args.held.now) lawful (g.Q.Query.name c.args.key) place.result place.ensures.place c.args.at.now (sym c.has_one_of.ensures ∙ c.if-has_one_of.false)
