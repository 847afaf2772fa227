use Rattle.ck_foreign.proofs.FewKeys.{HasShown}
use Rattle.ck_foreign.proofs.several.show_each.Given as goal

abbrev pub invariant-loop-i : goal.invariant-loop-i
invariant-loop-i l = HasShown l.values l.initial.entries l.i l.entries
