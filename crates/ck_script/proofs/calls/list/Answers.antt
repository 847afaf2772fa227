use Rattle.ck_format.specs.Answers.{answer_on_names}
use Rattle.ck_script.proofs.Lists.{listed}
use Rattle.ck_script.proofs.calls.list.Goals as goal

pub returns-in-Ok : goal.returns-in-Ok
returns-in-Ok g c =
    listed g.K.TableKey.hash c.args.handle c.unlock_caller.result c.in-Ok.locked (answer_on_names g.K.TableKey.name c.listed-answer.result) c.in-Ok.ensures.locked c.listed-answer.ensures c.unlock_caller.ensures.same
    c.unlock_caller.ensures.answered c.unlock_caller.ensures.notes
