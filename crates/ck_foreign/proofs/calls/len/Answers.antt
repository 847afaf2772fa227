use Rattle.std.proofs.Common.{rules}
use Rattle.ck_foreign.proofs.Through.{through}
use Rattle.ck_foreign.proofs.calls.len.Goals as goal

pub returns-clause-called : goal.returns-clause-called
returns-clause-called g c =
    let e = c.len-len.ensures in
    through _ _ _ _ c.deref_mut.result.now c.len-len.new.self (search rules) (search rules)
    (c.len-len.result, record { same = e.same; answered = e.answered; notes = e.notes; busy = e.busy; found = e.found }, c.counted.ensures)
