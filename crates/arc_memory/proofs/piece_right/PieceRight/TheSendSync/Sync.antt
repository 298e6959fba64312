use denote.RattleType.{RattleType}
use denote.Memory.{raw_all}
use denote.Param.Send.{IsSend, IsSync, Frees, whole-keyless}
use Rattle.core.specs.declared.alloc.Allocator.{Ghosts}
use Rattle.arc_memory.proofs.piece_right.PieceRight.TheSendSync.Send.{send}
use Rattle.arc_memory.specs.contracts.piece_right.PieceRight.{the_row}

pub sync : (T A : RattleType) (g : Ghosts A.Denot) → IsSend A → Frees g g.dealloc_token
    → IsSync (the_row T A g)
sync T A g sa f = let R : RattleType = the_row T A g in let own = (send T A g sa f).owned in
    record { shared = λ d b o κ q. whole-keyless (raw_all R.mir) R.own_val own q d b o }
