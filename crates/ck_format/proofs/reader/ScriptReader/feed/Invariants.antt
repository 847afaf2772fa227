use Rattle.std.proofs.Common.{◌≤◌, ◌+◌, length}
use Rattle.ck_format.specs.Taken.{size_of, IsWithinLimits}
use Rattle.ck_format.proofs.Reading.{HasFed}
use Rattle.ck_format.proofs.reader.ScriptReader.feed.Given as goal

abbrev pub invariant-loop-line : goal.invariant-loop-line
invariant-loop-line l = record {
  limits : IsWithinLimits l.self;
  size : size_of l.fn.self + length l.block ≤ size_of l.self + length l.rest;
  fed : HasFed l.fn.self l.block l.self l.rest;
}

abbrev pub decreases-loop-line : goal.decreases-loop-line
decreases-loop-line l = length l.rest
