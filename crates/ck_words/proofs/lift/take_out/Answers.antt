use Rattle.std.proofs.Common.{◌≡◌, ◌∙◌, List, sym, ap, arith, Some}
use Rattle.std.proofs.lemmas.List.{take_all}
use Rattle.ck_model.proofs.Numbered.{Some-injective}
use Rattle.ck_stripe.specs.Stripe.{StripeState}
use Rattle.ck_stripe.specs.Stripes.{stripe_at}
use Rattle.ck_words.specs.Rule.{Hand}
use Rattle.ck_words.specs.Passes.{held_in}
use Rattle.ck_words.proofs.Lifting.{came_out, lifted_to, lifted_all, others_from, count_of, brought, in_front, lifted_more, listed_more}
use Rattle.ck_words.proofs.lift.take_out.Goals as goal

pub exchange-requires : goal.exchange-requires
exchange-requires g c =
    let rs : List (StripeState g.row.V.Denot) = held_in c.args.seat.now.me.1 in
    let t = c.loop-t.t in
    let front = brought c.args.count t rs c.loop-t.seat.me.1 c.turn_by.new.seat.me.1 c.requires.numbered c.loop-t-test.true c.loop-t.invariant.slots (ap (λ (m : Hand g.row.V.Denot). m.1) c.turn_by.ensures.turned) in
    (c.turn_by.ensures.table ∙ (c.loop-t.invariant.table ∙ c.requires.own), (Some (stripe_at rs t), in_front t (stripe_at rs t) c.turn_by.new.seat.me.1 (others_from t rs) front))

pub unreachable-requires : goal.unreachable-requires
unreachable-requires g c =
    let rs : List (StripeState g.row.V.Denot) = held_in c.args.seat.now.me.1 in
    let t = c.loop-t.t in
    let front = brought c.args.count t rs c.loop-t.seat.me.1 c.turn_by.new.seat.me.1 c.requires.numbered c.loop-t-test.true c.loop-t.invariant.slots (ap (λ (m : Hand g.row.V.Denot). m.1) c.turn_by.ensures.turned) in
    c.in_default.not-Some (stripe_at rs t) (came_out c.turn_by.new.seat.me.1 t (stripe_at rs t) c.exchange.result (in_front t (stripe_at rs t) c.turn_by.new.seat.me.1 (others_from t rs) front) c.exchange.ensures.2)

pub loop-t-preserved : goal.loop-t-preserved
loop-t-preserved g c =
    let rs : List (StripeState g.row.V.Denot) = held_in c.args.seat.now.me.1 in
    let t = c.loop-t.t in
    let inside = c.loop-t-test.true in
    let front = brought c.args.count t rs c.loop-t.seat.me.1 c.turn_by.new.seat.me.1 c.requires.numbered inside c.loop-t.invariant.slots (ap (λ (m : Hand g.row.V.Denot). m.1) c.turn_by.ensures.turned) in
    let out = came_out c.turn_by.new.seat.me.1 t (stripe_at rs t) c.exchange.result (in_front t (stripe_at rs t) c.turn_by.new.seat.me.1 (others_from t rs) front) c.exchange.ensures.2 in
    let stripe : c.in-Some.stripe ≡ stripe_at rs t = Some-injective _ _ (sym c.in-Some.is ∙ out) in
    let count = count_of c.args.count rs c.requires.numbered in
    record {
      table = c.exchange.ensures.0 ∙ (c.turn_by.ensures.table ∙ c.loop-t.invariant.table);
      view = ap (λ (m : Hand g.row.V.Denot). m.0) c.exchange.ensures.3 ∙ (ap (λ (m : Hand g.row.V.Denot). m.0) c.turn_by.ensures.turned ∙ c.loop-t.invariant.view);
      slots = lifted_more t rs (stripe_at rs t) c.turn_by.new.seat.me.1 c.exchange.new.seat.me.1 front (ap (λ (m : Hand g.row.V.Denot). m.1) c.exchange.ensures.3);
      listed = listed_more t rs c.loop-t.list.list.items c.push_reserved.new.self.list.items c.in-Some.stripe (omega arith) c.loop-t.invariant.listed stripe c.push_reserved.ensures.items;
      room = c.push_reserved.ensures.capacity ∙ c.loop-t.invariant.room;
    }

pub returns-clause-emptied : goal.returns-clause-emptied
returns-clause-emptied g c =
    let rs : List (StripeState g.row.V.Denot) = held_in c.args.seat.now.me.1 in
    let count = count_of c.args.count rs c.requires.numbered in
    let end : c.loop-t.t ≡ c.args.count = omega arith in
    c.loop-t.invariant.slots ∙ (ap (λ n. lifted_to n rs) end ∙ lifted_all c.args.count rs (omega arith))

pub returns-clause-list : goal.returns-clause-list
returns-clause-list g c =
    let rs : List (StripeState g.row.V.Denot) = held_in c.args.seat.now.me.1 in
    let count = count_of c.args.count rs c.requires.numbered in
    c.loop-t.invariant.listed ∙ take_all c.loop-t.t rs (omega arith)
