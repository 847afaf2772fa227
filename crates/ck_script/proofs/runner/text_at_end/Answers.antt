use Rattle.std.proofs.Common.{arith, map}
use Rattle.ck_format.specs.Answers.{lists_on_names}
use Rattle.cuckoo_map.specs.Callers.{pass_of}
use Rattle.ck_script.proofs.Workers.{some_handle, are_others, closes_all, text_at_end}
use Rattle.ck_script.proofs.runner.text_at_end.Goals as goal

pub unreachable-requires : goal.unreachable-requires
unreachable-requires g c =
    let none = c.in_default.ensures.cases.0 in
    let count = c.args.handles.ok.0 in
    some_handle c.requires.0 c.args.handles.items c.requires.1 (omega arith)

pub close_table-requires : goal.close_table-requires
close_table-requires g c =
    are_others c.requires.0 c.args.handles.items c.pop.new.self.items c.in-Some.last c.in-Some.ensures.items c.requires.1 c.in_ok-passes.passes.items c.in_ok-passes.ensures.passes c.in_ok-passes.ensures.own

pub returns-in-Ok : goal.returns-in-Ok
returns-in-Ok g c w all =
    let closed = c.in-Ok.ensures.pairs in
    let closes = closes_all w c.args.handles.items c.pop.new.self.items c.in-Some.last c.in-Some.ensures.items all g.K.TableKey.hash closed.0 c.in_ok-passes.passes.items c.in_ok-passes.ensures.passes closed.1 in
    text_at_end g.K.TableKey.hash g.K.TableKey.name g.K.Ord.cmp g.met.K.WrittenKey.in_order g.K.WrittenKey.keys g.met.K.WrittenKey.hashed w.settings (map pass_of c.args.handles.items) (lists_on_names g.K.TableKey.name c.args.answers.now)
    c.in-Ok.pairs.items closed.0 c.text_of.result closes closed.2 (rw c.deref.ensures.value at c.text_of.ensures)
