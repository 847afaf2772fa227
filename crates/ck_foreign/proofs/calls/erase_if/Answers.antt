use Rattle.std.proofs.Common.{rules, Some, None, true, false, Ok, Err}
use Rattle.ck_foreign.proofs.Through.{through}
use Rattle.ck_foreign.proofs.calls.erase_if.Goals as goal

pub returns-in-Ok-Some-true : goal.returns-in-Ok-Some-true
returns-in-Ok-Some-true g c =
    let e = c.erase_fn-erased.ensures in
    record {
      called = through _ _ _ _ c.deref_mut.result.now c.erase_fn-erased.new.self (search rules) (search rules)
          (Ok (Some true), record { same = e.same; answered = search rules; notes = search rules; busy = search rules; found = e.found }, search rules);
    }

pub returns-in-Ok-Some-false : goal.returns-in-Ok-Some-false
returns-in-Ok-Some-false g c =
    let e = c.erase_fn-erased.ensures in
    record {
      called = through _ _ _ _ c.deref_mut.result.now c.erase_fn-erased.new.self (search rules) (search rules)
          (Ok (Some false), record { same = e.same; answered = search rules; notes = search rules; busy = search rules; found = e.found }, search rules);
    }

pub returns-in-Ok-None : goal.returns-in-Ok-None
returns-in-Ok-None g c =
    let e = c.erase_fn-erased.ensures in
    record {
      called = through _ _ _ _ c.deref_mut.result.now c.erase_fn-erased.new.self (search rules) (search rules)
          (Ok None, record { same = e.same; answered = search rules; notes = search rules; busy = search rules; found = e.found }, search rules);
    }

pub returns-in-Err : goal.returns-in-Err
returns-in-Err g c =
    let e = c.erase_fn-erased.ensures in
    record {
      called = through _ _ _ _ c.deref_mut.result.now c.erase_fn-erased.new.self (search rules) (search rules)
          (Err c.in-Err.field-0, record { same = e.same; answered = search rules; notes = search rules; busy = search rules; found = e.found }, search rules);
    }
