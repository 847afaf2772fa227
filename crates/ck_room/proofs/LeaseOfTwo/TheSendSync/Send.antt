use denote.RattleType.{RattleType}
use denote.Param.Send.{IsSend, Frees}
use Rattle.core.specs.declared.alloc.Allocator.{Ghosts}
use Rattle.ck_room.proofs.Crosses.{LeaseOfTwo-send}
use Rattle.ck_room.specs.contracts.LeaseOfTwo.{the_row}

pub send : (R S A : RattleType) (g : Ghosts A.Denot) → IsSend A → Frees g g.dealloc_token → IsSend (the_row R S A g)
send R S A g s = LeaseOfTwo-send R S A g
