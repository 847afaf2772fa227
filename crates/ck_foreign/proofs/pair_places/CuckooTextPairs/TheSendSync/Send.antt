-- A place of a list may go to another thread, since what it leads to may.
use denote.Param.Send.{IsSend}
use Rattle.ck_owned.proofs.Places.{place_keyless}
use Rattle.ck_foreign.proofs.PairRows.{text_pairs_send}
use Rattle.ck_foreign.specs.PairRows.{text_pairs_row}
use Rattle.ck_foreign.specs.contracts.pair_places.CuckooTextPairs.{the_row}

pub send : IsSend the_row
send = record { owned = λ d vs. ((λ _. (tt, (tt, tt))), place_keyless text_pairs_row text_pairs_send d.at d.held); leaving = λ k d w. tt }
