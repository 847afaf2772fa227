use Rattle.std.proofs.Common.{sym, ◌∙◌}
use Rattle.ck_format.proofs.Reading.{ends_within, ends_early, ends_whole, no_bytes, some_bytes}
use Rattle.ck_format.proofs.reader.ScriptReader.finish.Goals as goal

pub returns-then-not-is_empty-clause-err : goal.returns-then-not-is_empty-clause-err
returns-then-not-is_empty-clause-err c bytes taken =
    ends_within c.args.self c.requires.front c.fault-fault.result c.fault-fault.ensures bytes taken
    (some_bytes _ c.args.self.front.items c.args.self.front.ok.0 (sym c.is_empty.ensures ∙ c.if-not-is_empty.true))

pub returns-in-Some-clause-ok : goal.returns-in-Some-clause-ok
returns-in-Some-clause-ok c = ends_whole c.args.self c.in-Some.script (no_bytes _ c.args.self.front.items c.args.self.front.ok.0 (sym c.is_empty.ensures ∙ c.if-not-is_empty.false)) c.in-Some.ensures.some

pub returns-clause-err : goal.returns-clause-err
returns-clause-err c bytes taken = ends_early c.args.self c.requires.front c.fault-fault.result c.fault-fault.ensures bytes taken c.in-None.ensures.none
