use Rattle.std.proofs.Common.{◌≡◌}
use Rattle.ck_words.specs.Passes.{rotated}
use Rattle.ck_words.proofs.visits.turn_by.Given as goal

abbrev pub invariant-loop-i : goal.invariant-loop-i
invariant-loop-i g l = record {
  table : l.seat.table_id ≡ l.initial.seat.table_id;
  me : l.seat.me ≡ (l.initial.seat.me.0, rotated l._i l.initial.seat.me.1);
}
