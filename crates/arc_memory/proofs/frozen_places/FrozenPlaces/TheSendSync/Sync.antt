use denote.RattleType.{RattleType}
use denote.Param.Send.{IsSync, sendable}
use denote.Struct.Struct.{Struct}
use denote.Struct.Owning.{shape}
use Rattle.arc_memory.proofs.Keyless.{frozen_part}
use Rattle.arc_memory.specs.contracts.frozen_places.FrozenPlaces.{the_row, the_type}

pub sync : (T : RattleType) → IsSync T → IsSync (the_row T)
sync T y = let fields : IsSync (Struct (shape (the_type T))) = search sendable depth 20 in
    record {
      shared =
          λ d b o κ. (fields.shared (tt, tt) b o κ, frozen_part T y d.memory d.start d.items);
    }
