use Rattle.std.proofs.Common.{arith}
use Rattle.ck_foreign.proofs.FewKeys.{shown_all}
use Rattle.ck_foreign.proofs.several.show_each.Goals as goal

pub returns-clause-shown : goal.returns-clause-shown
returns-clause-shown c = let long = c.loop-i.invariant.long in shown_all c.args.values.now c.args.entries.now c.loop-i.i c.loop-i.entries c.requires (omega arith) c.loop-i.invariant
