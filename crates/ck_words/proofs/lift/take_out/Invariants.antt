use Rattle.std.proofs.Common.{◌≡◌, take}
use Rattle.std.specs.Prelude.{vec_capacity}
use Rattle.ck_words.specs.Passes.{held_in}
use Rattle.ck_words.proofs.Lifting.{lifted_to}
use Rattle.ck_words.proofs.lift.take_out.Given as goal

abbrev pub invariant-loop-t : goal.invariant-loop-t
invariant-loop-t g l = record {
  table : l.seat.table_id ≡ l.initial.seat.table_id;
  view : l.seat.me.0 ≡ l.initial.seat.me.0;
  slots : l.seat.me.1 ≡ lifted_to l.t (held_in l.initial.seat.me.1);
  listed : l.list.list.items ≡ take l.t (held_in l.initial.seat.me.1);
  room : vec_capacity l.list.list ≡ vec_capacity l.initial.list.list;
}
