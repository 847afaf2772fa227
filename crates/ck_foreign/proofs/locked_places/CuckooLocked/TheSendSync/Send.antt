-- A place of a locked table may go to another thread, since what it leads to may.
use denote.Param.Send.{IsSend}
use Rattle.ck_owned.proofs.Places.{place_keyless}
use Rattle.ck_foreign.proofs.SessionRows.{number_session_send}
use Rattle.ck_foreign.specs.SessionRows.{number_session_row}
use Rattle.ck_foreign.specs.contracts.locked_places.CuckooLocked.{the_row}

pub send : IsSend the_row
send = record { owned = λ d vs. ((λ _. (tt, (tt, tt))), place_keyless number_session_row number_session_send d.at d.held); leaving = λ k d w. tt }
