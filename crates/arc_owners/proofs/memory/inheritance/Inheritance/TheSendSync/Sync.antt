use denote.RattleType.{RattleType}
use denote.Param.Send.{IsSend, IsSync, Frees, sendable}
use denote.Struct.Struct.{Struct}
use denote.Struct.Owning.{shape}
use Rattle.core.specs.declared.alloc.Allocator.{Ghosts}
use Rattle.arc_owners.proofs.memory.Inheritances.{keep_keyless}
use Rattle.arc_owners.specs.contracts.memory.inheritance.Inheritance.{the_row, the_type}

pub sync : (T A : RattleType) (g : Ghosts A.Denot) → IsSend T → IsSend A → Frees g g.dealloc_token
    → IsSync (the_row T A g)
sync T A g s sa f =
    let fields : IsSync (Struct (shape (the_type T A g))) = search sendable depth 20 in
    record {
      shared =
          λ d b o ν. (
            fields.shared (tt, tt) b o ν,
            keep_keyless T A g s f d.alloc d.at d.value
                d.lease,
          );
    }
