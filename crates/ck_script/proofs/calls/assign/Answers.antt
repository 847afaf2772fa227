use Rattle.ck_format.specs.declared.script.Command.TheVariants.{Assign}
use Rattle.ck_format.specs.Answers.{answer_on_names}
use Rattle.ck_script.proofs.Entries.{uninserted}
use Rattle.ck_script.proofs.calls.assign.Goals as goal

pub returns-in-Err : goal.returns-in-Err
returns-in-Err g c =
    let name = g.K.TableKey.name in
    uninserted g.K.TableKey.hash (Assign (name c.args.key) c.args.value) (name c.args.key) (answer_on_names name c.refusal_of.result) c.in-Err.refused.why c.args.handle.now c.insert_or_assign.new.self tt (λ a said. said) (λ a by grounds. grounds) c.insert_or_assign.ensures.same c.refusal_of.ensures c.in-Err.ensures.refused.2
