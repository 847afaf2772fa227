use denote.RattleType.{RattleType}
use denote.Param.Send.{IsSync}
use Rattle.core.specs.declared.alloc.Allocator.{Ghosts}
use Rattle.ck_room.proofs.Crosses.{LeaseOfTwo-sync}
use Rattle.ck_room.specs.contracts.LeaseOfTwo.{the_row}

pub sync : (R S A : RattleType) (g : Ghosts A.Denot) → IsSync (the_row R S A g)
sync = LeaseOfTwo-sync
