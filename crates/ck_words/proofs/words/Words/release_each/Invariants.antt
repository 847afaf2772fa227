use Rattle.std.proofs.Common.{take}
use Rattle.ck_stripe.specs.Stripes.{HaveNoSpare}
use Rattle.ck_words.specs.StripeSets.{list_of}
use Rattle.ck_words.proofs.Releasing.{Leaves}
use Rattle.ck_words.proofs.Telling.{IsToldBelow}
use Rattle.ck_words.proofs.words.Words.release_each.Given as goal

abbrev pub invariant-loop-i : goal.invariant-loop-i
invariant-loop-i g l = record {
  leaves : Leaves l.self (take l.i (list_of l.set)) l.initial.pass l.pass;
  no_spare : HaveNoSpare l.pass.stripes;
  told : IsToldBelow l.initial.pass l.pass;
}
