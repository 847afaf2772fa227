use Rattle.std.proofs.Common.{◌≡◌, ℕ, ◌<◌, Bool, MatchBool, None, Some, Option, List, sym, ◌∙◌, ap, subst, get_or, eqb, map, arith, ◌≤◌}
use Rattle.std.specs.Option.{option_eq, option_flatten}
use Rattle.std.specs.Bool.{OnTrue}
use Rattle.ck_model.specs.Slots.{Slot}
use Rattle.ck_model.specs.Paths.{partial_in}
use Rattle.ck_stripe.specs.Stripes.{bucket_at}
use Rattle.ck_stripe.specs.HeldSlots.{slot_in}
use Rattle.ck_section.specs.Hops.{HasPartial, source_in}
use Rattle.ck_section.proofs.Hopped.{flat, test_says, test_inside}
use Rattle.ck_section.proofs.hop.has_partial.Given.{Over}
use Rattle.ck_section.proofs.hop.has_partial.Goals as goal

-- what the test is
is : (g : Over) (c : goal.After-eq g) → c.eq.result ≡ option_eq eqb (get_or (map (partial_in g.K.TableKey.hash) (bucket_at (g.H.Held.stripes c.args.held.now) c.args.from c.args.hop.bucket)) c.args.hop.slot None) (Some c.args.hop.partial)
is g c =
    let same : c.args.hop.slot ≤ c.args.hop.slot = omega arith in
    c.eq.ensures ∙ ap (λ (o : Option ℕ). option_eq eqb o (Some c.args.hop.partial)) (c.flatten.ensures ∙ ap (λ (o : Option (Option ℕ)). option_flatten o) c.copied.ensures ∙ flat c.get.result ∙ c.get.ensures.lookup.4 same None ∙ ap (λ (l : List (Option ℕ)). get_or l c.args.hop.slot None) c.sketch-sketch.ensures.value)

pub returns-clause-value : goal.returns-clause-value
returns-clause-value g c =
    let slot : Slot g.row.V.Denot = slot_in (g.H.Held.stripes c.args.held.now) (source_in c.args.from c.args.hop) in
    subst (λ b. MatchBool b (HasPartial g.K.TableKey.hash slot c.args.hop.partial) (¬ (HasPartial g.K.TableKey.hash slot c.args.hop.partial))) (sym (is g c))
    (test_says g.K.TableKey.hash (bucket_at (g.H.Held.stripes c.args.held.now) c.args.from c.args.hop.bucket) c.args.hop.slot c.args.hop.partial)

pub returns-clause-below : goal.returns-clause-below
returns-clause-below g c =
    subst (λ (x : Bool × ℕ). OnTrue x.0 (c.args.hop.slot < x.1)) (λ i. (sym (is g c) i, c.sketch-sketch.ensures.four i))
    (test_inside g.K.TableKey.hash (bucket_at (g.H.Held.stripes c.args.held.now) c.args.from c.args.hop.bucket) c.args.hop.slot c.args.hop.partial)
