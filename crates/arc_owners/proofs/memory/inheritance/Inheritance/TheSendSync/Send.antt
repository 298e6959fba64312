use denote.RattleType.{RattleType}
use denote.Param.Send.{IsSend, Frees}
use Rattle.core.specs.declared.alloc.Allocator.{Ghosts}
use Rattle.arc_owners.proofs.memory.Inheritances.{keep_keyless}
use Rattle.arc_owners.specs.contracts.memory.inheritance.Inheritance.{the_row}

pub send : (T A : RattleType) (g : Ghosts A.Denot) → IsSend T → IsSend A → Frees g g.dealloc_token
    → IsSend (the_row T A g)
send T A g s sa f =
    record {
      owned =
          λ d vs. (
            (λ vss. (tt, ((λ uss. (tt, tt)), tt))),
            keep_keyless T A g s f d.alloc d.at d.value
                d.lease,
          );
      leaving = λ k e vs. tt;
    }
