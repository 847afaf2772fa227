use Rattle.std.proofs.Common.{ap, arith}
use Rattle.ck_format.specs.declared.script.ScriptFault.{ScriptFault}
use Rattle.ck_format.proofs.Reading.{fault_piece, stops_here}
use Rattle.ck_format.proofs.reader.ScriptReader.extend.Goals as goal

pub returns-then-piece-len-clause-err : goal.returns-then-piece-len-clause-err
returns-then-piece-len-clause-err c =
    fault_piece c.args.self.now c.args.piece.now c.fault.result c.requires.limits.front.no_feed c.requires.piece (omega arith) c.fault.ensures

pub returns-in-Err-clause-memory : goal.returns-in-Err-clause-memory
returns-in-Err-clause-memory c refused =
    stops_here c.args.self.now c.args.piece.now c.fault-in-Err.result.line c.requires.limits.front (ap (λ (e : ScriptFault). e.line) c.fault-in-Err.ensures)
