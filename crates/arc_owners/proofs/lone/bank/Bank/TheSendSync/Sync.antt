use denote.RattleType.{RattleType}
use denote.Param.Send.{IsSend, IsSync, Frees, sendable}
use denote.Struct.Struct.{Struct}
use denote.Struct.Owning.{shape}
use Rattle.core.specs.declared.alloc.Allocator.{Ghosts}
use Rattle.arc_owners.proofs.count.Banks.{bank_keyless}
use Rattle.arc_owners.specs.contracts.lone.bank.Bank.{the_row, the_type}

pub sync : (A : RattleType) (g : Ghosts A.Denot) → IsSend A → Frees g g.dealloc_token
    → IsSync (the_row A g)
sync A g sa f =
    let fields : IsSync (Struct (shape (the_type A g))) = search sendable depth 20 in
    record {
      shared =
          λ d b o ν. (
            fields.shared (tt, tt) b o ν,
            bank_keyless A g f d.alloc d.number d.receipts,
          );
    }
