use Rattle.std.proofs.Common.{◌≡◌}
use Rattle.ck_words.specs.Opening.{fresh_slots}
use Rattle.ck_words.proofs.open.open_slots.Given as goal

abbrev pub invariant-loop-number : goal.invariant-loop-number
invariant-loop-number g l = l.slots.items ≡ fresh_slots l.settings l.number
