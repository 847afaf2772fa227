use Rattle.std.proofs.Common.{rules, [], refl, sym, subst, arith}
use Rattle.ck_model.specs.Numbered.{numbers}
use Rattle.ck_core.specs.Steps.{IsAbove}
use Rattle.ck_words.specs.Passes.{PassState, TakesStripe}
use Rattle.ck_words.proofs.Staying.{not_found, found_never, found_next}
use Rattle.ck_words.proofs.Taking.{tries_later}
use Rattle.ck_words.proofs.words.Words.try_take.Goals as goal

pub try_again-requires : goal.try_again-requires
try_again-requires g c = record {
  own = search rules;
  inside = search rules;
  above = (let again = found_next g.K.TableKey.hash c.args.self.now 0 c.args.t c.args.pass.now c.args.pass.now c.take.new.pass (found_never c.args.t c.args.pass.now) c.requires.own c.take.ensures.own c.if-take.ensures.step in subst (λ (q : PassState g.row.V.Denot). IsAbove c.args.t (numbers q.view.held)) (sym again.1) c.requires.above);
  unchanged = search rules;
}

pub returns-then-take-clause-tries : goal.returns-then-take-clause-tries
returns-then-take-clause-tries g c =
    let some = c.show_range.ensures.turns in
    (0, omega arith, [], subst (λ (q : PassState g.row.V.Denot). TakesStripe g.K.TableKey.hash c.args.self.now.settings c.args.t q c.take.new.pass) (not_found c.args.t c.args.pass.now) c.if-take.ensures.step, λ m by. refl)

pub returns-clause-tries : goal.returns-clause-tries
returns-clause-tries g c =
    let again = found_next g.K.TableKey.hash c.args.self.now 0 c.args.t c.args.pass.now c.args.pass.now c.take.new.pass (found_never c.args.t c.args.pass.now) c.requires.own c.take.ensures.own c.if-take.ensures.step in
    tries_later g.K.TableKey.hash c.args.self.now.settings c.args.self.now.settings.turns c.args.t c.args.pass.now c.take.new.pass c.try_again.new.pass c.try_again.result c.show_range.ensures.turns again c.try_again.ensures.tries
