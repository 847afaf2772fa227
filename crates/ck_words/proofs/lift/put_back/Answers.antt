use Rattle.std.proofs.Common.{◌≡◌, ◌∙◌, List, length, refl, sym, ap, arith, None}
use Rattle.std.proofs.lemmas.List.{take_all, length-take-le}
use Rattle.ck_stripe.specs.Stripe.{StripeState}
use Rattle.ck_words.specs.Rule.{Hand}
use Rattle.ck_words.proofs.Lifting.{lifted_to, lifted_all, count_of, empty_front, popped, lowered_more}
use Rattle.ck_words.proofs.lift.put_back.Goals as goal

pub loop-t-init : goal.loop-t-init
loop-t-init g c =
    let rs : List (StripeState g.row.V.Denot) = c.args.list.now.list.items in
    let count = count_of c.args.count rs c.requires.numbered in
    record {
      table = refl;
      view = refl;
      slots = c.requires.emptied ∙ sym (lifted_all c.args.count rs (omega arith));
      listed = sym (take_all c.args.count rs (omega arith));
      room = refl;
    }

pub unreachable-requires : goal.unreachable-requires
unreachable-requires g c =
    let rs : List (StripeState g.row.V.Denot) = c.args.list.now.list.items in
    let t = c.loop-t.t in
    let some = c.loop-t-test.true in
    let count = count_of c.args.count rs c.requires.numbered in
    let taken = length-take-le t rs (omega arith) in
    let left = ap length c.loop-t.invariant.listed in
    let none = c.in_default.ensures.cases.0 in
    let len = c.loop-t.list.list.ok.0 in
    omega arith

pub exchange-requires : goal.exchange-requires
exchange-requires g c =
    let rs : List (StripeState g.row.V.Denot) = c.args.list.now.list.items in
    (c.loop-t.invariant.table ∙ c.requires.own, (None, empty_front c.loop-t.t rs c.loop-t.seat.me.1 c.loop-t-test.true c.loop-t.invariant.slots))

pub loop-t-preserved : goal.loop-t-preserved
loop-t-preserved g c =
    let rs : List (StripeState g.row.V.Denot) = c.args.list.now.list.items in
    let t = c.loop-t.t in
    let some = c.loop-t-test.true in
    let count = count_of c.args.count rs c.requires.numbered in
    let out = popped t rs c.loop-t.list.list.items c.pop.new.self.list.items c.in-Some.stripe some (omega arith) c.loop-t.invariant.listed c.in-Some.ensures.items in
    record {
      table = c.turn.ensures.0 ∙ (c.exchange.ensures.0 ∙ c.loop-t.invariant.table);
      view = ap (λ (m : Hand g.row.V.Denot). m.0) c.turn.ensures.2 ∙ (ap (λ (m : Hand g.row.V.Denot). m.0) c.exchange.ensures.3 ∙ c.loop-t.invariant.view);
      slots = lowered_more c.args.count t rs c.in-Some.stripe c.loop-t.seat.me.1 c.exchange.new.seat.me.1 c.turn.new.self.me.1 c.requires.numbered some (omega arith) out.1 c.loop-t.invariant.slots (ap (λ (m : Hand g.row.V.Denot). m.1) c.exchange.ensures.3) (ap (λ (m : Hand g.row.V.Denot). m.1) c.turn.ensures.2);
      listed = out.0;
      room = c.pop.ensures.capacity ∙ c.loop-t.invariant.room;
    }

pub returns-clause-full : goal.returns-clause-full
returns-clause-full g c =
    let rs : List (StripeState g.row.V.Denot) = c.args.list.now.list.items in
    let end : c.loop-t.t ≡ 0 = omega arith in
    c.loop-t.invariant.slots ∙ ap (λ n. lifted_to n rs) end
