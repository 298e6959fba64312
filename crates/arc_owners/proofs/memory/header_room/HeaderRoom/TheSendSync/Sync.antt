use denote.RattleType.{RattleType}
use denote.Memory.{raw_all}
use denote.Param.Send.{IsSync, whole-keyless}
use Rattle.arc_owners.proofs.memory.header_room.HeaderRoom.TheSendSync.Send.{send}
use Rattle.arc_owners.specs.contracts.memory.header_room.HeaderRoom.{the_row}

pub sync : (X : RattleType) → IsSync (the_row X)
sync X = let R : RattleType = the_row X in let own = (send X).owned in
    record { shared = λ d b o κ q. whole-keyless (raw_all R.mir) R.own_val own q d b o }
