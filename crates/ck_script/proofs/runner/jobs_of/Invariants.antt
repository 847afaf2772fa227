use Rattle.std.proofs.Common.{◌≡◌, length, vec_len}
use Rattle.std.specs.Prelude.{All}
use Rattle.std.specs.List.{AllZip}
use Rattle.ck_script.specs.Jobs.{IsJob, IsReadyJob}
use Rattle.ck_script.proofs.runner.jobs_of.Given as goal

abbrev pub invariant-loop-handle : goal.invariant-loop-handle
invariant-loop-handle g l = record {
  count : vec_len l.jobs ≡ length l.yielded;
  jobs : AllZip IsJob l.yielded l.jobs.items;
  ready : All IsReadyJob l.jobs.items;
}
