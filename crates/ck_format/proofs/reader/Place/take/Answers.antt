use Rattle.std.proofs.Common.{refl}
use Rattle.ck_format.specs.declared.script.What.TheVariants as is
use Rattle.ck_format.proofs.Reading.{place_next, place_limits, place_fault, place_long, as_fault}
use Rattle.ck_format.proofs.reader.Place.take.Goals as goal

pub returns-then-line-gt-MOST_BYTES-clause-err : goal.returns-then-line-gt-MOST_BYTES-clause-err
returns-then-line-gt-MOST_BYTES-clause-err c lines more stands some =
    as_fault c.fault.result c.args.self.now.number is.TooLong _ c.fault.ensures (place_long c.args.self.now c.args.line.now c.args.self.now.number refl c.if-line-gt-MOST_BYTES.true lines more stands some)

pub returns-in-Ok-clause-limits : goal.returns-in-Ok-clause-limits
returns-in-Ok-clause-limits c = place_limits c.args.self.now c.take.new.self c.args.line.now c.in-Ok.ensures.ok c.requires.limits

pub returns-in-Ok-clause-ok : goal.returns-in-Ok-clause-ok
returns-in-Ok-clause-ok c = place_next c.args.self.now c.take.new.self c.args.line.now c.in-Ok.ensures.ok c.requires.no_feed c.if-line-gt-MOST_BYTES.false

pub returns-in-Err-clause-err : goal.returns-in-Err-clause-err
returns-in-Err-clause-err c lines more stands some =
    as_fault c.fault-in-Err.result c.args.self.now.number c.in-Err.what _ c.fault-in-Err.ensures
    (place_fault c.args.self.now c.args.line.now c.in-Err.what c.args.self.now.number refl c.in-Err.ensures.err c.if-line-gt-MOST_BYTES.false lines more stands some)
