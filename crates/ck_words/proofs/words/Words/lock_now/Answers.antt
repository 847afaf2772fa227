use Rattle.std.proofs.Common.{rules, ◌<◌, take, length, subst, arith}
use Rattle.std.proofs.lemmas.List.{take_all}
use Rattle.std.proofs.lemmas.Result.{on_ok_weaker, IfErr-weaker}
use Rattle.ck_model.specs.Numbered.{IsIn}
use Rattle.ck_words.specs.Holding.{HasTaken}
use Rattle.ck_words.specs.StripeSets.{list_of}
use Rattle.ck_words.proofs.Taking.{none_taken}
use Rattle.ck_words.proofs.Missing.{above_next, next_swapped, next_missed}
use Rattle.ck_words.proofs.words.Words.lock_now.Given.{Over}
use Rattle.ck_words.proofs.words.Words.lock_now.Goals.{After-count, After-count-2}
use Rattle.ck_words.proofs.words.Words.lock_now.Goals as goal

pub take-requires : goal.take-requires
take-requires g c = record {
  own = search rules;
  inside = search rules;
  above = (let p = c.args.pass.now in above_next g.K.TableKey.hash c.args.self.now (list_of c.args.set) 0 c.at.result c.at.ensures.value p p c.args.set.rising c.args.set.some (none_taken g.K.TableKey.hash c.args.self.now _ p c.requires.own c.requires.idle));
  unchanged = search rules;
}

-- the first was found held
pub returns-then-not-take-clause-missed : goal.returns-then-not-take-clause-missed
returns-then-not-take-clause-missed g c =
    let p = c.args.pass.now in
    next_missed g.K.TableKey.hash c.args.self.now (list_of c.args.set) 0 c.at.result c.at.ensures.value p p c.args.set.rising c.args.set.some (none_taken g.K.TableKey.hash c.args.self.now _ p c.requires.own c.requires.idle) c.take.new.pass c.if-not-take.ensures.step c.take.ensures.own

-- it was taken
one : (g : Over) (c : After-count g) → HasTaken g.K.TableKey.hash c.args.self.now (λ t. IsIn t (list_of c.args.set)) (take 1 (list_of c.args.set)) c.args.pass.now c.take.new.pass
one g c =
    let p = c.args.pass.now in
    next_swapped g.K.TableKey.hash c.args.self.now (list_of c.args.set) 0 c.at.result c.at.ensures.value p p c.args.set.rising c.args.set.some (none_taken g.K.TableKey.hash c.args.self.now _ p c.requires.own c.requires.idle) c.take.new.pass c.if-not-take.ensures.step c.take.ensures.own c.take.ensures.unchanged

-- and is the only one
pub returns-then-count-eq1-clause-taken : goal.returns-then-count-eq1-clause-taken
returns-then-count-eq1-clause-taken g c =
    let e = c.count.ensures in
    let n = c.if-count-eq1.true in
    subst (λ ns. HasTaken g.K.TableKey.hash c.args.self.now (λ t. IsIn t (list_of c.args.set)) ns c.args.pass.now c.take.new.pass) (take_all 1 (list_of c.args.set) (omega arith)) (one g (goal.at.returns-then-count-eq1-clause-taken g c).After-count)

pub take-requires-2 : goal.take-requires-2
take-requires-2 g c = record {
  own = search rules;
  inside = search rules;
  above = (let p = c.args.pass.now in let more : 1 < length (list_of c.args.set) = let s = c.args.set.some in let e = c.count.ensures in let n = c.if-count-eq1.false in omega arith in above_next g.K.TableKey.hash c.args.self.now (list_of c.args.set) 1 c.at-2.result c.at-2.ensures.value p c.take.new.pass c.args.set.rising more (one g (goal.at.take-requires-2 g c).After-count));
  unchanged = search rules;
}

-- the second was found held
pub returns-then-not-take-2-clause-missed : goal.returns-then-not-take-2-clause-missed
returns-then-not-take-2-clause-missed g c =
    let p = c.args.pass.now in
    let more : 1 < length (list_of c.args.set) = let s = c.args.set.some in let e = c.count.ensures in let n = c.if-count-eq1.false in omega arith in
    next_missed g.K.TableKey.hash c.args.self.now (list_of c.args.set) 1 c.at-2.result c.at-2.ensures.value p c.take.new.pass c.args.set.rising more (one g (goal.at.returns-then-not-take-2-clause-missed g c).After-count) c.take-2.new.pass c.if-not-take-2.ensures.step c.take-2.ensures.own

-- both were taken
two : (g : Over) (c : After-count-2 g) → HasTaken g.K.TableKey.hash c.args.self.now (λ t. IsIn t (list_of c.args.set)) (take 2 (list_of c.args.set)) c.args.pass.now c.take-2.new.pass
two g c =
    let p = c.args.pass.now in
    let one = next_swapped g.K.TableKey.hash c.args.self.now (list_of c.args.set) 0 c.at.result c.at.ensures.value p p c.args.set.rising c.args.set.some (none_taken g.K.TableKey.hash c.args.self.now _ p c.requires.own c.requires.idle) c.take.new.pass c.if-not-take.ensures.step c.take.ensures.own c.take.ensures.unchanged in
    let more : 1 < length (list_of c.args.set) = let s = c.args.set.some in let e = c.count.ensures in let n = c.if-count-eq1.false in omega arith in
    next_swapped g.K.TableKey.hash c.args.self.now (list_of c.args.set) 1 c.at-2.result c.at-2.ensures.value p c.take.new.pass c.args.set.rising more one c.take-2.new.pass c.if-not-take-2.ensures.step c.take-2.ensures.own c.take-2.ensures.unchanged

-- and are all
pub returns-then-count-eq2-clause-taken : goal.returns-then-count-eq2-clause-taken
returns-then-count-eq2-clause-taken g c =
    let e = c.count-2.ensures in
    let n = c.if-count-eq2.true in
    subst (λ ns. HasTaken g.K.TableKey.hash c.args.self.now (λ t. IsIn t (list_of c.args.set)) ns c.args.pass.now c.take-2.new.pass) (take_all 2 (list_of c.args.set) (omega arith)) (two g (goal.at.returns-then-count-eq2-clause-taken g c).After-count-2)

-- or there are others
pub lock_rest-requires-clause-taken : goal.lock_rest-requires-clause-taken
lock_rest-requires-clause-taken g c = (c.args.pass.now, two g (goal.at.lock_rest-requires-clause-taken g c).After-count-2)

pub returns-clause-taken : goal.returns-clause-taken
returns-clause-taken g c = on_ok_weaker c.lock_rest.result (λ all. all c.args.pass.now (two g (goal.at.returns-clause-taken g c).After-count-2)) c.lock_rest.ensures.taken

pub returns-clause-missed : goal.returns-clause-missed
returns-clause-missed g c = IfErr-weaker c.lock_rest.result _ _ (λ i all. all c.args.pass.now (two g (goal.at.returns-clause-missed g c).After-count-2)) c.lock_rest.ensures.missed
