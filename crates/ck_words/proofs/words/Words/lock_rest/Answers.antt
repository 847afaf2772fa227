use Rattle.std.proofs.Common.{subst, arith}
use Rattle.std.proofs.lemmas.List.{take_all}
use Rattle.ck_model.specs.Numbered.{IsIn}
use Rattle.ck_words.specs.Holding.{HasTaken}
use Rattle.ck_words.specs.StripeSets.{list_of}
use Rattle.ck_words.proofs.Missing.{ready_next, next_swapped, next_missed}
use Rattle.ck_words.proofs.words.Words.lock_rest.Goals as goal

pub loop-i-init : goal.loop-i-init
loop-i-init g c p h = h

pub take-requires : goal.take-requires
take-requires g c =
    ready_next g.K.TableKey.hash c.args.self.now (list_of c.args.set) c.loop-i.i c.number_at.result c.number_at.ensures.value c.requires.taken.0 c.loop-i.pass c.args.set.rising (omega arith) (c.loop-i.invariant c.requires.taken.0 c.requires.taken.1) c.args.set.s c.requires.of_table c.number_at.ensures.inside

pub loop-i-preserved : goal.loop-i-preserved
loop-i-preserved g c p h = next_swapped g.K.TableKey.hash c.args.self.now (list_of c.args.set) c.loop-i.i c.number_at.result c.number_at.ensures.value p c.loop-i.pass c.args.set.rising (omega arith) (c.loop-i.invariant p h) c.take.new.pass c.if-not-take.ensures.step c.take.ensures.own c.take.ensures.unchanged

pub returns-then-not-take-clause-missed : goal.returns-then-not-take-clause-missed
returns-then-not-take-clause-missed g c p h = next_missed g.K.TableKey.hash c.args.self.now (list_of c.args.set) c.loop-i.i c.number_at.result c.number_at.ensures.value p c.loop-i.pass c.args.set.rising (omega arith) (c.loop-i.invariant p h) c.take.new.pass c.if-not-take.ensures.step c.take.ensures.own

pub returns-clause-own : goal.returns-clause-own
returns-clause-own g c = let h = c.loop-i.invariant c.requires.taken.0 c.requires.taken.1 in h.own

pub returns-clause-unchanged : goal.returns-clause-unchanged
returns-clause-unchanged g c = let h = c.loop-i.invariant c.requires.taken.0 c.requires.taken.1 in h.unchanged

pub returns-clause-taken : goal.returns-clause-taken
returns-clause-taken g c p h =
    subst (λ ns. HasTaken g.K.TableKey.hash c.args.self.now (λ t. IsIn t (list_of c.args.set)) ns p c.loop-i.pass) (take_all c.loop-i.i (list_of c.args.set) (omega arith)) (c.loop-i.invariant p h)
