use Rattle.ck_foreign.proofs.NoSession.{no_session}
use Rattle.ck_foreign.proofs.sessions.drain.Goals as goal

pub returns-in-Err-clause-called : goal.returns-in-Err-clause-called
returns-in-Err-clause-called g c =
    let e = c.in-Err.ensures in
    no_session _ _ _ _ _ c.in-Err.code e.list e.taken.0 e.taken.1
