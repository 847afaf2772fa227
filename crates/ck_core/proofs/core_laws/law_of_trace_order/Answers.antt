use Rattle.ck_core.proofs.TraceOrder.{law_of_trace_order}
use Rattle.ck_core.proofs.core_laws.law_of_trace_order.Goals as goal

pub returns : goal.returns
returns g c = law_of_trace_order _
