-- A place of a locked table may go to another thread, since what it leads to may.
use denote.Param.Send.{IsSend}
use Rattle.ck_owned.proofs.Places.{place_keyless}
use Rattle.ck_foreign.proofs.SessionRows.{text_session_send}
use Rattle.ck_foreign.specs.SessionRows.{text_session_row}
use Rattle.ck_foreign.specs.contracts.locked_places.CuckooTextLocked.{the_row}

pub send : IsSend the_row
send = record { owned = λ d vs. ((λ _. (tt, (tt, tt))), place_keyless text_session_row text_session_send d.at d.held); leaving = λ k d w. tt }
