use denote.RattleType.{RattleType}
use denote.Param.Send.{IsSync, sendable}
use denote.Struct.Struct.{Struct}
use denote.Struct.Owning.{shape, to}
use Rattle.arc_owners.specs.memory.LentSlices.{shown_for}
use Rattle.arc_owners.proofs.memory.LentSlices.{lent_keyless}
use Rattle.arc_owners.specs.contracts.memory.shown.Shown.{the_row, the_type}

pub sync : (T V : RattleType) → IsSync T → IsSync (the_row T V)
sync T V y = let fields : IsSync (Struct (shape (the_type T V))) = search sendable depth 20 in
    record {
      shared = λ d b o κ. (
        fields.shared (to (the_type T V) d) b o κ,
        lent_keyless T y d.at d.items (shown_for T V d.lifetime),
      );
    }
