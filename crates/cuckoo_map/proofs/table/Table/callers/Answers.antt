use Rattle.std.proofs.Common.{◌∙◌, rules, length, sym, subst, ap}
use Rattle.std.proofs.lemmas.List.{map-id}
use Rattle.std.proofs.lemmas.Iterator.Consumers.{YieldsList-turn, YieldsList-end}
use Rattle.std.proofs.lemmas.Iterator.Adapters.{YieldsList-from_vec}
use Rattle.ck_words.specs.Closing.{IsCaller}
use Rattle.cuckoo_map.specs.Callers.{callers_of}
use Rattle.cuckoo_map.proofs.table.Table.callers.Goals as goal

pub caller-requires : goal.caller-requires
caller-requires g c =
    let turn = YieldsList-turn (YieldsList-from_vec {s = c.into_iter-pass-iterator.result} c.args.passes.items (search rules) (search rules)) c.loop-pass.yielded c.loop-pass.pass-iterator c.loop-pass.yielded_by c.next.result c.next.new.self c.in-Some.pass c.in-Some.is c.next.ensures.steps in
    subst (IsCaller c.args.self.now) (sym turn.1) (c.requires (length c.loop-pass.yielded) c.in-Some.pass turn.0)

pub returns-clause-callers : goal.returns-clause-callers
returns-clause-callers g c =
    let all = YieldsList-end (YieldsList-from_vec {s = c.into_iter-pass-iterator.result} c.args.passes.items (search rules) (search rules)) c.loop-pass.yielded c.loop-pass.pass-iterator c.loop-pass.yielded_by c.next.result c.next.new.self c.in-None.is c.next.ensures.steps in
    c.loop-pass.invariant.made ∙ ap (callers_of c.args.self.now) (sym (map-id c.loop-pass.yielded) ∙ all.0)
