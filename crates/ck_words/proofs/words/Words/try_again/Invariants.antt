use Rattle.std.proofs.Common.{◌-◌}
use Rattle.ck_words.specs.Passes.{IsPassOf, IsUnchanged}
use Rattle.ck_words.specs.Retries.{FindsAgain}
use Rattle.ck_words.proofs.words.Words.try_again.Given as goal

abbrev pub invariant-loop-tries : goal.invariant-loop-tries
invariant-loop-tries g l = record {
  own : IsPassOf l.self l.pass;
  unchanged : IsUnchanged l.pass;
  tried : FindsAgain (l.tries - 1) l.t l.initial.pass l.pass;
}
