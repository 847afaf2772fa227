use Rattle.std.proofs.Common.{ℕ, take, ap, arith}
use Rattle.std.proofs.lemmas.Bool.{false_from_ne_true, false≢true}
use Rattle.ck_format.specs.declared.script.ScriptFault.{ScriptFault}
use Rattle.ck_format.proofs.Sources.{read_more, cut_in, stops_in, block_fault, end_spelled, end_fault_of, fault_read}
use Rattle.ck_format.proofs.reader.read_all.Goals as goal

pub returns-in-Err-clause-fault : goal.returns-in-Err-clause-fault
returns-in-Err-clause-fault g c = fault_read (g.R.Source.left c.args.source.now) c.fault.result c.loop-reader.reader.place.number c.fault.ensures

pub returns-in-Err-clause-cut : goal.returns-in-Err-clause-cut
returns-in-Err-clause-cut g c failed =
    cut_in _ _ _ c.loop-reader.reader c.fault.result.line c.loop-reader.invariant.limits.front (ap (λ (e : ScriptFault). e.line) c.fault.ensures) c.loop-reader.invariant.read c.in-Err.ensures.bytes

pub returns-in-Ok-eq0-clause-spelled : goal.returns-in-Ok-eq0-clause-spelled
returns-in-Ok-eq0-clause-spelled g c =
    let at_end = c.in-Ok-eq0.ensures.bytes.1 c.in-Ok-eq0.field-0-test (omega arith) in
    let empty = ap (λ (n : ℕ). take n c.read.new.buffer) c.in-Ok-eq0.field-0-test in
    end_spelled _ _ _ c.loop-reader.reader _ empty c.loop-reader.invariant.read c.in-Ok-eq0.ensures.bytes.0 at_end c.finish.result c.finish.ensures.ok

pub returns-in-Ok-eq0-clause-fault : goal.returns-in-Ok-eq0-clause-fault
returns-in-Ok-eq0-clause-fault g c =
    let at_end = c.in-Ok-eq0.ensures.bytes.1 c.in-Ok-eq0.field-0-test (omega arith) in
    let empty = ap (λ (n : ℕ). take n c.read.new.buffer) c.in-Ok-eq0.field-0-test in
    end_fault_of _ _ _ c.loop-reader.reader _ empty c.loop-reader.invariant.read c.in-Ok-eq0.ensures.bytes.0 at_end c.finish.result c.finish.ensures.err

pub loop-reader-preserved : goal.loop-reader-preserved
loop-reader-preserved g c =
    record {
      limits = c.in-Ok-feed.ensures.limits;
      works = false_from_ne_true _ (λ e. false≢true (c.in-Ok.ensures.failed.0 e));
      read = read_more _ _ _ c.loop-reader.reader c.feed.new.self _ c.loop-reader.invariant.read c.in-Ok.ensures.bytes.0 c.in-Ok-feed.ensures.ok;
    }

pub returns-in-Err-feed-clause-fault : goal.returns-in-Err-feed-clause-fault
returns-in-Err-feed-clause-fault g c = block_fault _ _ _ c.loop-reader.reader _ c.in-Err-feed.fault c.loop-reader.invariant.read c.in-Ok.ensures.bytes.0 c.in-Err-feed.ensures.err

pub returns-in-Err-feed-clause-memory : goal.returns-in-Err-feed-clause-memory
returns-in-Err-feed-clause-memory g c refused =
    stops_in _ _ _ c.loop-reader.reader _ c.in-Err-feed.fault.line c.loop-reader.invariant.read c.in-Ok.ensures.bytes.0 (c.in-Err-feed.ensures.memory refused)
