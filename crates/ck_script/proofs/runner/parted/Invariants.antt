use Rattle.std.proofs.Common.{◌≡◌}
use Rattle.ck_script.specs.Jobs.{answers_of, handles_of}
use Rattle.ck_script.proofs.runner.parted.Given as goal

abbrev pub invariant-loop-done : goal.invariant-loop-done
invariant-loop-done g l = record {
  answers : l.answers.items ≡ answers_of l.yielded;
  handles : l.handles.items ≡ handles_of l.yielded;
}
