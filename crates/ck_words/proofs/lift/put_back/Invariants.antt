use Rattle.std.proofs.Common.{◌≡◌, take}
use Rattle.std.specs.Prelude.{vec_capacity}
use Rattle.ck_words.proofs.Lifting.{lifted_to}
use Rattle.ck_words.proofs.lift.put_back.Given as goal

abbrev pub invariant-loop-t : goal.invariant-loop-t
invariant-loop-t g l = record {
  table : l.seat.table_id ≡ l.initial.seat.table_id;
  view : l.seat.me.0 ≡ l.initial.seat.me.0;
  slots : l.seat.me.1 ≡ lifted_to l.t l.initial.list.list.items;
  listed : l.list.list.items ≡ take l.t l.initial.list.list.items;
  room : vec_capacity l.list.list ≡ vec_capacity l.initial.list.list;
}
