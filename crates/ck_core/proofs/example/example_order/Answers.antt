use Rattle.ck_core.proofs.ExampleOrder.{calls, order}
use Rattle.ck_core.proofs.example.example_order.Goals as goal

pub returns : goal.returns
returns c = record { calls = calls; order = order }
