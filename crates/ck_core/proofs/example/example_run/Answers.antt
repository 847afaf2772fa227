use Rattle.ck_core.proofs.ExampleRun.{opens, runs}
use Rattle.ck_core.proofs.example.example_run.Goals as goal

pub returns : goal.returns
returns c = record { opening = opens; history = runs }
