use Rattle.std.proofs.Common.{ap}
use Rattle.ck_format.specs.Script.{on_names}
use Rattle.ck_format.specs.Answers.{answer_on_names}
use Rattle.ck_script.proofs.Entries.{answered_as}
use Rattle.ck_script.proofs.calls.answer_of.Goals as goal
use Rattle.ck_script.proofs.calls.answer_of.Goals.{in-Find, in-Has, in-Insert, in-Assign, in-Update, in-Add, in-Erase, in-Len, in-Move}

pub returns : goal.returns
returns g c =
    let name = g.K.TableKey.name in
    elim c.match-command.branch [
      | in-Find w ↦ answered_as _ _ _ _ _ _ _ _ w.find-answer.ensures (ap (on_names name) w.in-Find.is) (ap (answer_on_names name) w.answer-is) w.handle-is
      | in-Has w ↦ answered_as _ _ _ _ _ _ _ _ w.has-answer.ensures (ap (on_names name) w.in-Has.is) (ap (answer_on_names name) w.answer-is) w.handle-is
      | in-Insert w ↦ answered_as _ _ _ _ _ _ _ _ w.insert-answer.ensures (ap (on_names name) w.in-Insert.is) (ap (answer_on_names name) w.answer-is) w.handle-is
      | in-Assign w ↦ answered_as _ _ _ _ _ _ _ _ w.assign-answer.ensures (ap (on_names name) w.in-Assign.is) (ap (answer_on_names name) w.answer-is) w.handle-is
      | in-Update w ↦ answered_as _ _ _ _ _ _ _ _ w.update-answer.ensures (ap (on_names name) w.in-Update.is) (ap (answer_on_names name) w.answer-is) w.handle-is
      | in-Add w ↦ answered_as _ _ _ _ _ _ _ _ w.add-answer.ensures (ap (on_names name) w.in-Add.is) (ap (answer_on_names name) w.answer-is) w.handle-is
      | in-Erase w ↦ answered_as _ _ _ _ _ _ _ _ w.erase-answer.ensures (ap (on_names name) w.in-Erase.is) (ap (answer_on_names name) w.answer-is) w.handle-is
      | in-Len w ↦ answered_as _ _ _ _ _ _ _ _ w.len-answer.ensures (ap (on_names name) w.in-Len.is) (ap (answer_on_names name) w.answer-is) w.handle-is
      | in-Move w ↦ answered_as _ _ _ _ _ _ _ _ w.transfer-answer.ensures (ap (on_names name) w.in-Move.is) (ap (answer_on_names name) w.answer-is) w.handle-is
    ]
