use Rattle.ck_format.proofs.Cuts.{none_found, found_parts, front_without, to_end}
use Rattle.ck_format.proofs.reader.cut_line.Goals as goal

pub returns-in-None-clause-none : goal.returns-in-None-clause-none
returns-in-None-clause-none c = none_found 10 c.args.bytes.now c.in-None.ensures

pub returns-in-Some-clause-found : goal.returns-in-Some-clause-found
returns-in-Some-clause-found c = rw to_end (found_parts 10 c.args.bytes.now c.in-Some.at c.in-Some.ensures.0.high c.in-Some.ensures.1, front_without 10 c.args.bytes.now c.in-Some.at c.in-Some.ensures.0)
