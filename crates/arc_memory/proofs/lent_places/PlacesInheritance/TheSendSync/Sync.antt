use denote.RattleType.{RattleType}
use denote.Memory.{raw_all}
use denote.Param.Send.{IsSend, IsSync, whole-keyless}
use Rattle.arc_memory.proofs.lent_places.PlacesInheritance.TheSendSync.Send.{send}
use Rattle.arc_memory.specs.contracts.lent_places.PlacesInheritance.{the_row}

pub sync : (T : RattleType) → IsSend T → IsSync (the_row T)
sync T s = let R : RattleType = the_row T in let own = (send T s).owned in
    record { shared = λ d b o κ q. whole-keyless (raw_all R.mir) R.own_val own q d b o }
