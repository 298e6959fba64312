use denote.RattleType.{RattleType}
use denote.Param.Send.{IsSync, sendable}
use denote.Struct.Struct.{Struct}
use denote.Struct.Owning.{shape}
use Rattle.arc_owners.specs.contracts.count.owner_without_lifetime.OwnerWithoutLifetime.{the_row}
use Rattle.arc_owners.specs.contracts.count.owner_without_lifetime.OwnerWithoutLifetime.{the_type}
use Rattle.arc_owners.proofs.count.Shared.{shown_keyless}

pub sync : (T : RattleType) → IsSync (the_row T)
sync T = let fields : IsSync (Struct (shape (the_type T))) = search sendable depth 20 in
    record {
      shared =
          λ d b o ν. (fields.shared (tt, tt) b o ν, shown_keyless d.block d.owner d.lease d.born ν);
    }
