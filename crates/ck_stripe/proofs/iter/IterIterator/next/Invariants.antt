use Rattle.std.proofs.Common.{◌≡◌, ◌-◌}
use Rattle.ck_stripe.specs.Iter.{pairs_from, HasSlots}
use Rattle.ck_stripe.proofs.iter.IterIterator.next.Given as goal

-- only free slots were passed over
abbrev pub invariant-loop-self : goal.invariant-loop-self
invariant-loop-self g l = record {
  has : HasSlots l.self-inside.rows.now l.self-inside.count;
  left : pairs_from l.self-inside.slot l.self-inside.rows.now ≡ l.fn.self;
}

abbrev pub decreases-loop-self : goal.decreases-loop-self
decreases-loop-self g l = l.self-inside.count - l.self-inside.slot
