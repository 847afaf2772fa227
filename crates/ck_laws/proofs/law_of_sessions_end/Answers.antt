use Rattle.ck_laws.proofs.Sessions.{session_leaves, session_began}
use Rattle.ck_laws.proofs.law_of_sessions_end.Goals as goal

pub returns : goal.returns
returns g c = record { leaves = session_leaves; start = session_began }
