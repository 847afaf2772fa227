use Rattle.std.proofs.Common.{rules, ap, ◌≡◌, ◌∙◌, sym, subst, All, None}
use Rattle.std.proofs.lemmas.List.Elements.{All-more}
use Rattle.std.proofs.lemmas.List.{take_all}
use Rattle.ck_foreign.proofs.Placing.{held_as_before, held_at_first}
use Rattle.ck_foreign.proofs.opening.is_any_open.Goals as goal

pub loop-place-preserved : goal.loop-place-preserved
loop-place-preserved g c =
    let lt = c.loop-place-test.true in
    record {
      kept = held_as_before g.P.Holds.held c.loop-place.places c.args.places.now c.loop-place.place-index c.place-item.result c.place-item.is c.loop-place.invariant.kept
          c.is_open.new.place (search rules);
      none = All-more (λ p. g.P.Holds.held p ≡ None) c.args.places.now c.loop-place.place-index c.place-item.result lt c.loop-place.invariant.none
          (held_at_first g.P.Holds.held c.loop-place.places c.args.places.now c.loop-place.place-index c.place-item.result c.place-item.is c.loop-place.invariant.kept
          None (search rules) (search rules) lt);
    }

pub returns-then-is_open-clause-kept : goal.returns-then-is_open-clause-kept
returns-then-is_open-clause-kept g c =
    held_as_before g.P.Holds.held c.loop-place.places c.args.places.now c.loop-place.place-index c.place-item.result c.place-item.is c.loop-place.invariant.kept c.is_open.new.place
    (search rules)

pub returns-clause-none : goal.returns-clause-none
returns-clause-none g c none = subst (All (λ p. g.P.Holds.held p ≡ None)) (take_all c.loop-place.place-index c.args.places.now c.loop-place-test.false) c.loop-place.invariant.none

pub returns-then-is_open-clause-some : goal.returns-then-is_open-clause-some
returns-then-is_open-clause-some g c opened closed =
    let held = g.P.Holds.held in
    let at = c.loop-place.place-index in
    let place = c.place-item.result in
    let first = held_at_first held c.loop-place.places c.args.places.now at place c.place-item.is c.loop-place.invariant.kept _ (ap held c.place-item.is) (search rules) c.loop-place-test.true in
    c.is_open.ensures.some c.if-is_open.true (sym first ∙ closed at place c.loop-place-test.true)
