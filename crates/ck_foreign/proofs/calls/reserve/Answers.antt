use Rattle.std.proofs.Common.{rules}
use Rattle.ck_foreign.proofs.Through.{through}
use Rattle.ck_foreign.proofs.calls.reserve.Goals as goal

pub returns : goal.returns
returns g c =
    let e = c.reserve-grown.ensures in
    record { called = through _ _ _ _ c.deref_mut.result.now c.reserve-grown.new.self (search rules) (search rules) (c.reserve-grown.result, record { same = e.same; stays = e.stays; reserved = e.reserved; found = e.found }, c.grown_code.ensures) }
