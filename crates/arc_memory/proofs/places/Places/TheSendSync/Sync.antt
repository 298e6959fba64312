use Rattle.std.proofs.Common.{length}
use denote.RattleType.{RattleType}
use denote.Array.{Array}
use denote.Param.Send.{IsSync, array_sync, sendable}
use denote.Struct.Struct.{Struct}
use denote.Struct.Owning.{shape, to}
use Rattle.std_alloc.proofs.SendSync.{seen}
use Rattle.arc_memory.specs.Memory.{place_at}
use Rattle.arc_memory.specs.contracts.places.Places.{the_row, the_type}

pub sync : (T : RattleType) → IsSync T → IsSync (the_row T)
sync T y = let fields : IsSync (Struct (shape (the_type T))) = search sendable depth 20 in
    record {
      shared = λ d b o κ. let n = length d.items in (
        fields.shared (to (the_type T) d) b o κ,
        (
          tt,
          seen (Array T n) (array_sync T n y)
              (place_at T d.base d.start) d.items κ,
        ),
      );
    }
