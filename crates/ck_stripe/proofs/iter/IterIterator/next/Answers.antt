use Rattle.std.proofs.Common.{rules, None, Some, sym, ◌∙◌, arith}
use Rattle.ck_stripe.proofs.Listed.{none_left, next_left}
use Rattle.ck_stripe.proofs.iter.IterIterator.next.Goals as goal

pub returns-in-Some-clause-steps : goal.returns-in-Some-clause-steps
returns-in-Some-clause-steps g c =
    let it = c.loop-self.self-inside in
    sym c.loop-self.invariant.left ∙ next_left it.rows.now it.count it.slot c.loop-self.invariant.has (omega arith) g.K.TableKey.name (Some c.in-Some.pair.now) c.in-Some.ensures.value

pub returns-in-Some-clause-goes : goal.returns-in-Some-clause-goes
returns-in-Some-clause-goes g c =
    let it = c.loop-self.self-inside in
    let fewer = next_left it.rows.now it.count it.slot c.loop-self.invariant.has (omega arith) g.K.TableKey.name (Some c.in-Some.pair.now) c.in-Some.ensures.value in
    search rules

pub loop-self-preserved : goal.loop-self-preserved
loop-self-preserved g c =
    let it = c.loop-self.self-inside in record {
      has = c.loop-self.invariant.has;
      left = sym (next_left it.rows.now it.count it.slot c.loop-self.invariant.has (omega arith) g.K.TableKey.name None c.in_default.ensures.value) ∙ c.loop-self.invariant.left;
    }

pub returns-clause-steps : goal.returns-clause-steps
returns-clause-steps g c =
    let it = c.loop-self.self-inside in
    let none = none_left it.rows.now it.count it.slot c.loop-self.invariant.has (omega arith) in
    (sym c.loop-self.invariant.left ∙ none, none)
