use denote.RattleType.{RattleType}
use denote.Param.Send.{IsSync, sendable}
use denote.Struct.Struct.{Struct}
use denote.Struct.Owning.{shape}
use Rattle.arc_memory.specs.contracts.head_size.HeadSize.{the_row, the_type}

pub sync : (X : RattleType) → IsSync (the_row X)
sync X = let fields : IsSync (Struct (shape (the_type X))) = search sendable depth 20 in
    record { shared = λ d b o κ. (fields.shared (tt, tt) b o κ, tt) }
