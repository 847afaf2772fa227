use Rattle.std.proofs.Common.{◌≡◌, ◌≤◌, length, map, vec_len, vec_capacity}
use Rattle.std.specs.Prelude.{All}
use Rattle.cuckoo_map.specs.Callers.{pass_of}
use Rattle.ck_script.specs.Jobs.{HasPass}
use Rattle.ck_script.proofs.runner.passes_of.Given as goal

abbrev pub invariant-loop-handle : goal.invariant-loop-handle
invariant-loop-handle g l = record {
  passes : l.passes.items ≡ map pass_of l.yielded;
  own : All HasPass l.yielded;
  count : vec_len l.passes ≡ length l.yielded;
  room : vec_capacity l.initial.passes ≤ vec_capacity l.passes;
}
