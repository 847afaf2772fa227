use Rattle.std.proofs.Common.{◌≡◌}
use Rattle.ck_words.proofs.Dealt.{dealt_to}
use Rattle.ck_words.proofs.words.Words.open_all.Given as goal

abbrev pub invariant-loop-i : goal.invariant-loop-i
invariant-loop-i g l = l.passes.items ≡ dealt_to l.words-inside.table.shared.table_id l.words-inside.settings l._i
