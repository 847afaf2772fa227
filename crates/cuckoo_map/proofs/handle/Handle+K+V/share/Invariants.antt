use Rattle.std.proofs.Common.{◌≡◌, ◌≤◌, length, vec_len, vec_capacity}
use Rattle.std.specs.Arc.{arc_value}
use Rattle.cuckoo_map.specs.Callers.{callers_of}
use Rattle.cuckoo_map.proofs.handle.Handle+K+V.share.Given as goal

abbrev pub invariant-loop-pass : goal.invariant-loop-pass
invariant-loop-pass g l = record {
  made : l.handles.items ≡ callers_of (arc_value l.shared) l.yielded;
  count : vec_len l.handles ≡ length l.yielded;
  room : vec_capacity l.initial.handles ≤ vec_capacity l.handles;
}
