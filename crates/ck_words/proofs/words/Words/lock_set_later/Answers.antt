use Rattle.std.proofs.Common.{rules, subst, arith}
use Rattle.std.proofs.lemmas.List.{take_all}
use Rattle.ck_model.specs.Numbered.{IsIn}
use Rattle.ck_words.specs.Holding.{HasTaken}
use Rattle.ck_words.specs.StripeSets.{list_of}
use Rattle.ck_words.proofs.Missing.{ready_next, next_taken, next_refused, still_first, still_spare, above_missed, later_taken, later_first, later_spare, later_refused}
use Rattle.ck_words.proofs.words.Words.lock_set_later.Goals as goal

pub try_again-requires : goal.try_again-requires
try_again-requires g c = record {
  own = search rules;
  inside = search rules;
  above = above_missed g.K.TableKey.hash c.args.self.now (list_of c.args.set) c.args.i c.number_at-missed.result c.number_at-missed.ensures.value c.requires.missed.0 c.args.pass.now c.args.set.rising c.show_range.ensures.turns c.requires.missed.1;
  unchanged = search rules;
}

pub release_first-requires : goal.release_first-requires
release_first-requires g c = record {
  own = search rules;
  inside = search rules;
  numbered = later_first g.K.TableKey.hash c.args.self.now (list_of c.args.set) c.args.i c.number_at-missed.result c.number_at-missed.ensures.value c.requires.missed.0 c.args.pass.now c.args.set.rising c.show_range.ensures.turns c.requires.missed.1 _ c.try_again.new.pass c.if-not-try_again.ensures.tries;
  no_spare = later_spare g.K.TableKey.hash c.args.self.now (list_of c.args.set) c.args.i c.number_at-missed.result c.number_at-missed.ensures.value c.requires.missed.0 c.args.pass.now c.args.set.rising c.show_range.ensures.turns c.requires.missed.1 _ c.try_again.new.pass c.if-not-try_again.ensures.tries;
  unchanged = search rules;
}

pub returns-then-not-try_again : goal.returns-then-not-try_again
returns-then-not-try_again g c = record {
  taken = tt;
  refused = λ p m.
      later_refused g.K.TableKey.hash c.args.self.now (list_of c.args.set) c.args.i c.number_at-missed.result c.number_at-missed.ensures.value p c.args.pass.now c.args.set.rising c.show_range.ensures.turns m c.try_again.new.pass c.release_first.new.pass c.if-not-try_again.ensures.tries c.release_first.ensures.released;
}

pub loop-j-init : goal.loop-j-init
loop-j-init g c p m =
    later_taken g.K.TableKey.hash c.args.self.now (list_of c.args.set) c.args.i c.number_at-missed.result c.number_at-missed.ensures.value p c.args.pass.now c.args.set.rising c.show_range.ensures.turns m c.try_again.new.pass c.if-not-try_again.ensures.tries c.try_again.ensures.own c.try_again.ensures.unchanged

pub try_take-requires : goal.try_take-requires
try_take-requires g c =
    ready_next g.K.TableKey.hash c.args.self.now (list_of c.args.set) c.loop-j.j c.number_at-t.result c.number_at-t.ensures.value c.requires.missed.0 c.loop-j.pass c.args.set.rising (omega arith) (c.loop-j.invariant c.requires.missed.0 c.requires.missed.1) c.args.set.s c.requires.of_table c.number_at-t.ensures.inside

pub loop-j-preserved : goal.loop-j-preserved
loop-j-preserved g c p m =
    next_taken g.K.TableKey.hash c.args.self.now (list_of c.args.set) c.loop-j.j c.number_at-t.result c.number_at-t.ensures.value p c.loop-j.pass c.args.set.rising (omega arith) (c.loop-j.invariant p m) c.args.self.now.settings.turns c.try_take.new.pass c.if-not-try_take.ensures.tries c.try_take.ensures.own c.try_take.ensures.unchanged

pub release_first-requires-then-not-try_take : goal.release_first-requires-then-not-try_take
release_first-requires-then-not-try_take g c = record {
  own = search rules;
  inside = search rules;
  numbered = still_first g.K.TableKey.hash c.args.self.now (list_of c.args.set) c.loop-j.j c.number_at-t.result c.number_at-t.ensures.value c.requires.missed.0 c.loop-j.pass c.args.set.rising (omega arith) (c.loop-j.invariant c.requires.missed.0 c.requires.missed.1) _ c.try_take.new.pass c.if-not-try_take.ensures.tries;
  no_spare = still_spare g.K.TableKey.hash c.args.self.now (list_of c.args.set) c.loop-j.j c.number_at-t.result c.number_at-t.ensures.value c.requires.missed.0 c.loop-j.pass c.args.set.rising (omega arith) (c.loop-j.invariant c.requires.missed.0 c.requires.missed.1) _ c.try_take.new.pass c.if-not-try_take.ensures.tries;
  unchanged = search rules;
}

pub returns-then-not-try_take : goal.returns-then-not-try_take
returns-then-not-try_take g c = record {
  taken = tt;
  refused = λ p m.
      next_refused g.K.TableKey.hash c.args.self.now (list_of c.args.set) c.loop-j.j c.number_at-t.result c.number_at-t.ensures.value p c.loop-j.pass c.args.set.rising (omega arith) (c.loop-j.invariant p m) c.try_take.new.pass c.release_first-then-not-try_take.new.pass c.show_range.ensures.turns c.if-not-try_take.ensures.tries c.release_first-then-not-try_take.ensures.released;
}

pub returns : goal.returns
returns g c = record {
  taken = λ p m.
      subst (λ ns. HasTaken g.K.TableKey.hash c.args.self.now (λ t. IsIn t (list_of c.args.set)) ns p c.loop-j.pass) (take_all c.loop-j.j (list_of c.args.set) (omega arith)) (c.loop-j.invariant p m);
  refused = tt;
}
