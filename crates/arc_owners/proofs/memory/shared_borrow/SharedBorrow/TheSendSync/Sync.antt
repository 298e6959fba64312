use Rattle.std.proofs.Common.{[], ◌∷◌}
use denote.RattleType.{RattleType}
use denote.Param.Send.{IsSync, sendable}
use denote.Struct.Struct.{Struct}
use denote.Struct.Owning.{shape}
use Rattle.std_alloc.proofs.SendSync.{seen}
use Rattle.arc_owners.specs.contracts.memory.shared_borrow.SharedBorrow.{the_row, the_type}

pub sync : (T : RattleType) → IsSync T → IsSync (the_row T)
sync T y = let fields : IsSync (Struct (shape (the_type T))) = search sendable depth 20 in
    record {
      shared =
          λ d b o ν. (fields.shared (tt, tt) b o ν, seen T y d.at d.value (d.lifetime ∷ []));
    }
