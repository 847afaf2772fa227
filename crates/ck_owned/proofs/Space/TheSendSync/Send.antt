-- A block may go to another thread.
use denote.RattleType.{RattleType}
use denote.Param.Send.{IsSend}
use Rattle.ck_owned.proofs.Places.{space_keyless}
use Rattle.ck_owned.specs.contracts.Space.{the_row}

pub send : (R : RattleType) → IsSend (the_row R)
send R = record { owned = λ d vs. ((λ _. (tt, (tt, tt))), space_keyless R d.at); leaving = λ k d w. tt }
