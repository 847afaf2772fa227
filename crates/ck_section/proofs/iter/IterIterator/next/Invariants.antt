use Rattle.std.proofs.Common.{◌≡◌, ◌++◌, length}
use Rattle.ck_model.specs.Contents.{pairs_of}
use Rattle.ck_stripe.specs.Stripes.{contents_of}
use Rattle.ck_stripe.specs.Tables.{AreSettled}
use Rattle.ck_section.proofs.iter.IterIterator.next.Given as goal

-- only stripes with no pair left were passed over
abbrev pub invariant-loop-key : goal.invariant-loop-key
invariant-loop-key g l = record {
  settled : AreSettled l.self-inside.stripes.now;
  left : l.self-inside.pairs ++ pairs_of (contents_of l.self-inside.stripes.now) ≡ l.fn.self;
}

abbrev pub decreases-loop-key : goal.decreases-loop-key
decreases-loop-key g l = length l.self-inside.stripes.now
