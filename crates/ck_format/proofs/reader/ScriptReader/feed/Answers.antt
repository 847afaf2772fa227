use Rattle.std.proofs.Common.{◌≡◌, ℕ, ◌++◌, List, [], ◌∷◌, length, ap, sym, ◌∙◌, arith, append_assoc, length-append}
use Rattle.std.proofs.lemmas.Result.{err_from_is_err_and}
use Rattle.ck_format.proofs.Reading.{fed_more, fed_fault, fed_stops, last_fault_of, last_stops_of, last_takes_of}
use Rattle.ck_format.proofs.reader.ScriptReader.feed.Goals as goal

-- what is behind a line is its break and what is behind that
cut_at : (line after rest : List ℕ) → rest ≡ line ++ 10 ∷ after → rest ≡ (line ++ 10 ∷ []) ++ after
cut_at line after rest found = found ∙ sym (append_assoc line (10 ∷ []) after)

pub returns-in_err-end_line-clause-err : goal.returns-in_err-end_line-clause-err
returns-in_err-end_line-clause-err c =
    let p = err_from_is_err_and c.from_residual.result c.from_residual.ensures.1 in
    rw (p.1, p.2) (fed_fault c.args.self.now c.loop-line.self c.args.block.now c.loop-line.rest.now _ c.in-Some.after.now c.in_err-end_line.field-0.0
    c.loop-line.invariant.fed (cut_at c.in-Some.line.now _ _ c.in-Some.ensures.found.0) c.in_err-end_line.ensures.err)

pub returns-in_err-end_line-clause-memory : goal.returns-in_err-end_line-clause-memory
returns-in_err-end_line-clause-memory c =
    let p = err_from_is_err_and c.from_residual.result c.from_residual.ensures.1 in
    rw (p.1, p.2) (λ refused. fed_stops c.args.self.now c.loop-line.self c.args.block.now c.loop-line.rest.now _ c.in-Some.after.now c.in_err-end_line.field-0.0.line
    c.loop-line.invariant.fed (cut_at c.in-Some.line.now _ _ c.in-Some.ensures.found.0) (c.in_err-end_line.ensures.memory refused))

pub loop-line-preserved : goal.loop-line-preserved
loop-line-preserved c =
    let found = c.in-Some.ensures.found.0 in
    let more = c.in_ok-end_line.ensures.size in
    let before = c.loop-line.invariant.size in
    record {
      limits = c.in_ok-end_line.ensures.limits;
      size = omega (arith, ap length found, length-append c.in-Some.line.now (10 ∷ c.in-Some.after.now));
      fed = fed_more c.args.self.now c.loop-line.self c.end_line.new.self c.args.block.now c.loop-line.rest.now _ c.in-Some.after.now
          c.loop-line.invariant.fed (cut_at c.in-Some.line.now _ _ found) c.in_ok-end_line.ensures.ok;
    }

pub returns-clause-err : goal.returns-clause-err
returns-clause-err c = last_fault_of c.args.self.now c.loop-line.self c.args.block.now c.loop-line.rest.now c.extend.result c.loop-line.invariant.fed c.extend.ensures.err

pub returns-clause-memory : goal.returns-clause-memory
returns-clause-memory c = last_stops_of c.args.self.now c.loop-line.self c.args.block.now c.loop-line.rest.now c.extend.result c.loop-line.invariant.fed c.extend.ensures.memory

pub returns-clause-ok : goal.returns-clause-ok
returns-clause-ok c = last_takes_of c.args.self.now c.loop-line.self c.extend.new.self c.args.block.now c.loop-line.rest.now c.extend.result c.loop-line.invariant.fed c.extend.ensures.ok
