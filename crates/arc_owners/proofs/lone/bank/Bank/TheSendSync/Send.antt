use denote.RattleType.{RattleType}
use denote.Param.Send.{IsSend, Frees}
use Rattle.core.specs.declared.alloc.Allocator.{Ghosts}
use Rattle.arc_owners.proofs.count.Banks.{bank_keyless}
use Rattle.arc_owners.specs.contracts.lone.bank.Bank.{the_row}

pub send : (A : RattleType) (g : Ghosts A.Denot) → IsSend A → Frees g g.dealloc_token
    → IsSend (the_row A g)
send A g sa f =
    record {
      owned =
          λ d vs. (
            (λ vss. (tt, ((λ uss. (tt, tt)), tt))),
            bank_keyless A g f d.alloc d.number d.receipts,
          );
      leaving = λ k e vs. tt;
    }
