use denote.RattleType.{RattleType}
use denote.Param.Send.{IsSync}
use Rattle.ck_room.proofs.Crosses.{Places-sync}
use Rattle.ck_room.specs.contracts.Places.{the_row}

pub sync : (R : RattleType) → IsSync R → IsSync (the_row R)
sync = Places-sync
