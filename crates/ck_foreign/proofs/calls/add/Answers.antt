use Rattle.std.proofs.Common.{rules}
use Rattle.ck_foreign.proofs.Through.{through}
use Rattle.ck_foreign.proofs.calls.add.Goals as goal

pub returns : goal.returns
returns g c =
    let e = c.upsert-fresh.ensures in
    record {
      called = through _ _ _ _ c.deref_mut.result.now c.upsert-fresh.new.self (search rules) (search rules)
          (c.upsert-fresh.result, record { same = e.same; answered = search rules; notes = search rules; refused = search rules; found = e.found }, c.fresh_code.ensures);
    }
