use denote.RattleType.{RattleType}
use denote.Param.Send.{IsSync, sendable}
use denote.Struct.Struct.{Struct}
use denote.Struct.Owning.{shape, to}
use Rattle.core.specs.declared.alloc.Allocator.{Ghosts}
use Rattle.std_alloc.proofs.SendSync.{seen}
use Rattle.arc_owners.specs.contracts.memory.box_place.BoxPlace.{the_row, the_type}

pub sync : (T A : RattleType) (g : Ghosts A.Denot) → IsSync T → IsSync A → IsSync (the_row T A g)
sync T A g y ya =
    let fields : IsSync (Struct (shape (the_type T A g))) = search sendable depth 20 in
    record {
      shared =
          λ d b o ν. (fields.shared (to (the_type T A g) d) b o ν, seen T y d.at d.value ν);
    }
