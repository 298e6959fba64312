use denote.RattleType.{RattleType}
use denote.Param.Send.{IsSync}
use Rattle.core.specs.declared.alloc.Allocator.{Ghosts}
use Rattle.arc_memory.specs.contracts.emptied.Emptied.{the_row}

pub sync : (T A : RattleType) (g : Ghosts A.Denot) → IsSync (the_row T A g)
sync T A g = record { shared = λ _ _ _ _. tt }
