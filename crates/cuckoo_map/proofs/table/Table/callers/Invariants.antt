use Rattle.std.proofs.Common.{◌≡◌, ◌≤◌, length, vec_len, vec_capacity}
use Rattle.cuckoo_map.specs.Callers.{callers_of}
use Rattle.cuckoo_map.proofs.table.Table.callers.Given as goal

abbrev pub invariant-loop-pass : goal.invariant-loop-pass
invariant-loop-pass g l = record {
  made : l.callers.items ≡ callers_of l.self l.yielded;
  count : vec_len l.callers ≡ length l.yielded;
  room : vec_capacity l.initial.callers ≤ vec_capacity l.callers;
}
