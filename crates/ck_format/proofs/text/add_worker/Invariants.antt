use Rattle.std.proofs.Common.{◌≡◌, ◌++◌, take}
use Rattle.std.specs.Prelude.{flat_map}
use Rattle.ck_format.specs.Text.{answer_text}
use Rattle.ck_format.specs.Answers.{answers_on_names}
use Rattle.ck_format.proofs.text.add_worker.Given as goal

abbrev pub invariant-loop-answer : goal.invariant-loop-answer
invariant-loop-answer g l = l.out.items ≡ l.initial.out.items ++ flat_map (answer_text g.K.WrittenKey.keys) (answers_on_names g.K.TableKey.name (take l.answer-index l.answers))
