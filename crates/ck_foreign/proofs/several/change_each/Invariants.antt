use Rattle.std.proofs.Common.{◌≡◌, length}
use Rattle.std.specs.Prelude.{All, IsSome}
use Rattle.ck_foreign.specs.Several.{changed_by}
use Rattle.ck_foreign.proofs.FewKeys.{HasChanged}
use Rattle.ck_foreign.proofs.several.change_each.Given as goal

abbrev pub invariant-loop-i : goal.invariant-loop-i
invariant-loop-i g l = record {
  as_many : length l.changes ≡ length l.initial.values;
  all : All IsSome (changed_by g.C.Change.made l.changes l.initial.values);
  changed : HasChanged g.C.Change.made l.changes l.initial.values l.i l.values;
}
