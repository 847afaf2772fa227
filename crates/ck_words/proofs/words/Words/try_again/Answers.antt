use Rattle.std.proofs.Common.{rules, ◌≡◌, ◌+◌, ◌-◌, sym, subst, arith}
use Rattle.ck_model.specs.Numbered.{numbers}
use Rattle.ck_core.specs.Steps.{IsAbove}
use Rattle.ck_words.specs.Passes.{PassState}
use Rattle.ck_words.specs.Retries.{FindsAgain}
use Rattle.ck_words.proofs.Staying.{found_next}
use Rattle.ck_words.proofs.words.Words.try_again.Goals as goal

pub take-requires : goal.take-requires
take-requires g c = record {
  own = search rules;
  inside = search rules;
  above = subst (λ (q : PassState g.row.V.Denot). IsAbove c.args.t (numbers q.view.held)) (sym c.loop-tries.invariant.tried.1) c.requires.above;
  unchanged = search rules;
}

pub loop-tries-preserved : goal.loop-tries-preserved
loop-tries-preserved g c =
    let i = c.loop-tries.invariant in let n = c.loop-tries.tries in let some = c.loop-tries.auto.tries in
    record {
      own = c.take.ensures.own;
      unchanged = c.take.ensures.unchanged;
      tried = subst (λ m. FindsAgain m c.args.t c.args.pass.now c.take.new.pass) (let e : n - 1 + 1 ≡ n + 1 - 1 = omega arith in e) (found_next g.K.TableKey.hash c.args.self.now (n - 1) c.args.t c.args.pass.now c.loop-tries.pass c.take.new.pass i.tried i.own c.take.ensures.own c.if-take.ensures.step);
    }
