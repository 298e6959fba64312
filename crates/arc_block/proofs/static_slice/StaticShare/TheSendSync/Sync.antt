use Rattle.std.proofs.Common.{[]}
use denote.RattleType.{RattleType}
use denote.Param.Send.{IsSync, sendable}
use denote.Struct.Struct.{Struct}
use denote.Struct.Owning.{shape, to}
use Rattle.arc_owners.proofs.LentSlices.{lent_keyless}
use Rattle.arc_block.specs.contracts.static_slice.StaticShare.{the_row, the_type}

pub sync : (T : RattleType) → IsSync T → IsSync (the_row T)
sync T y = let fields : IsSync (Struct (shape (the_type T))) = search sendable depth 20 in
    record {
      shared =
          λ d b o κ. (fields.shared (to (the_type T) d) b o κ, lent_keyless T y d.ptr d.items []);
    }
