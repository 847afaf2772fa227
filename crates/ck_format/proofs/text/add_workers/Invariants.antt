use Rattle.std.proofs.Common.{◌≡◌, ◌++◌, take}
use Rattle.ck_format.specs.Text.{workers_text}
use Rattle.ck_format.specs.Answers.{lists_on_names}
use Rattle.ck_format.proofs.text.add_workers.Given as goal

abbrev pub invariant-loop-index : goal.invariant-loop-index
invariant-loop-index g l = l.out.items ≡ l.initial.out.items ++ workers_text g.K.WrittenKey.keys 1 (lists_on_names g.K.TableKey.name (take l.index l.workers))
