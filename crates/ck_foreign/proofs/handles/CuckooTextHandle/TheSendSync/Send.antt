-- A handle may go to another thread, since what it leads to may.
use denote.Param.Send.{IsSend}
use Rattle.ck_owned.proofs.Places.{place_keyless}
use Rattle.ck_foreign.proofs.Payloads.{text_row_send}
use Rattle.ck_foreign.specs.Payloads.{text_row}
use Rattle.ck_foreign.specs.contracts.handles.CuckooTextHandle.{the_row}

pub send : IsSend the_row
send = record { owned = λ d vs. ((λ _. (tt, (tt, tt))), place_keyless text_row text_row_send d.at d.held); leaving = λ k d w. tt }
