use denote.RattleType.{RattleType}
use denote.Param.Send.{IsSend}
use Rattle.ck_room.proofs.Crosses.{Places-send}
use Rattle.ck_room.specs.contracts.Places.{the_row}

pub send : (R : RattleType) → IsSend R → IsSend (the_row R)
send = Places-send
