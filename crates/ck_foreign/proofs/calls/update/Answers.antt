use Rattle.std.proofs.Common.{rules, Some, None, Ok, Err}
use Rattle.ck_foreign.proofs.Through.{through}
use Rattle.ck_foreign.proofs.calls.update.Goals as goal

pub returns-in-Ok-Some-clause-called : goal.returns-in-Ok-Some-clause-called
returns-in-Ok-Some-clause-called g c =
    let e = c.modify-was.ensures in
    through _ _ _ _ c.deref_mut.result.now c.modify-was.new.self (search rules) (search rules)
    (Ok (Some c.in-Ok-Some.v), record { same = e.same; answered = search rules; notes = search rules; busy = search rules; found = e.found }, search rules)

pub returns-in-Ok-None-clause-called : goal.returns-in-Ok-None-clause-called
returns-in-Ok-None-clause-called g c =
    let e = c.modify-was.ensures in
    through _ _ _ _ c.deref_mut.result.now c.modify-was.new.self (search rules) (search rules)
    (Ok None, record { same = e.same; answered = search rules; notes = search rules; busy = search rules; found = e.found }, search rules)

pub returns-in-Err-clause-called : goal.returns-in-Err-clause-called
returns-in-Err-clause-called g c =
    let e = c.modify-was.ensures in
    through _ _ _ _ c.deref_mut.result.now c.modify-was.new.self (search rules) (search rules)
    (Err c.in-Err.field-0, record { same = e.same; answered = search rules; notes = search rules; busy = search rules; found = e.found }, search rules)
