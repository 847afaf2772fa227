use Rattle.std.proofs.Common.{◌≡◌, ◌-◌, false}
use Rattle.ck_format.specs.Taken.{IsWithinLimits, size_of}
use Rattle.ck_format.proofs.Sources.{HasRead}
use Rattle.ck_format.proofs.reader.read_all.Given as goal

abbrev pub invariant-loop-reader : goal.invariant-loop-reader
invariant-loop-reader g l = record {
  limits : IsWithinLimits l.reader;
  works : g.R.Source.has_failed l.source ≡ false;
  read : HasRead (g.R.Source.left l.fn.source) l.reader (g.R.Source.left l.source);
}

-- the reader gets fuller, up to 1,001,034 lines and the front of one more
abbrev pub decreases-loop-reader : goal.decreases-loop-reader
decreases-loop-reader g l = 201208036 - size_of l.reader
