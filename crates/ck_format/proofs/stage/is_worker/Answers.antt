use Rattle.std.proofs.Common.{sym, ap, arith}
use Rattle.std.specs.Prelude.{codes}
use Rattle.std.proofs.lemmas.Slice.Eq.{text_from_reads}
use Rattle.ck_format.specs.FirstFault.{is_worker}
use Rattle.ck_format.proofs.stage.is_worker.Goals as goal

pub returns-in-worker : goal.returns-in-worker
returns-in-worker c =
    sym (ap is_worker (text_from_reads c.args.line.now (codes "worker") (omega arith)
    (omega arith, (omega arith, (omega arith, (omega arith, (omega arith, (omega arith, tt))))))))
