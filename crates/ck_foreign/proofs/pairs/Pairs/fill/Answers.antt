use Rattle.std.proofs.Common.{◌≡◌, ◌∷◌, [], drop, sym, ◌∙◌, arith}
use Rattle.ck_foreign.proofs.Taking.{more_than, next_at, as_many, shown_next}
use Rattle.ck_foreign.proofs.pairs.Pairs.fill.Goals as goal

pub returns-in_default : goal.returns-in_default
returns-in_default g c =
    let l = c.loop-i.invariant in
    let none : drop c.loop-i.i c.args.self.now ≡ [] = sym l.left ∙ c.in_default.ensures.0 in
    let all = as_many c.args.self.now c.loop-i.i l.enough none in
    (omega arith, l.shown, c.in_default.ensures.1 ∙ sym none)

pub loop-i-preserved : goal.loop-i-preserved
loop-i-preserved g c =
    let was = c.args.self.now in
    let i = c.loop-i.i in
    let l = c.loop-i.invariant in
    let next : drop i was ≡ c.in-Some.pair ∷ c.next.new.self = sym l.left ∙ c.in-Some.ensures in
    let more = more_than was i c.in-Some.pair c.next.new.self next in
    record {
      enough = omega arith;
      left = (next_at was i c.in-Some.pair c.next.new.self next).1;
      shown = rw c.of.ensures (shown_next g.T.Shows.shown was c.args.places.now c.loop-i.places i c.in-Some.pair c.next.new.self next c.loop-i-test.true l.shown);
    }
