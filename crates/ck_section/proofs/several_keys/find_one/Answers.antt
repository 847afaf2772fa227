use Rattle.std.proofs.Common.{◌≡◌, ℕ, List, subst}
use Rattle.std.specs.FinMap.{get}
use Rattle.ck_model.specs.Contents.{layout, Lawful, bindings}
use Rattle.ck_stripe.specs.Stripe.{StripeState}
use Rattle.ck_stripe.specs.Stripes.{contents_of}
use Rattle.ck_section.proofs.SeveralKeys.{found_bound}
use Rattle.ck_section.proofs.several_keys.find_one.Goals as goal

pub returns-clause-value : goal.returns-clause-value
returns-clause-value g c max lawful =
    let q = g.Q.Query.name c.args.key in
    let place = c.key_place-place in
    let found = c.find_copy.result in
    subst (λ (x : ℕ × List (StripeState g.row.V.Denot)). Lawful (layout g.K.TableKey.hash x.0 max) (contents_of x.1) → found ≡ get (bindings (contents_of x.1)) q) (λ j. (place.ensures.s j, place.ensures.same j))
    (found_bound g.K.TableKey.hash place.result.s (g.H.Held.stripes place.new.held) (g.H.Held.stripes c.find_copy.new.held) q found c.find_copy.ensures.call max) lawful
