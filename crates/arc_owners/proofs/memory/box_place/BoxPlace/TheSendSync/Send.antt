use mir.Raw.{raw}
use denote.RattleType.{RattleType}
use denote.Memory.{lone}
use denote.Param.Send.{IsSend, Frees}
use Rattle.core.specs.declared.alloc.Allocator.{Ghosts}
use Rattle.std_alloc.proofs.SendSync.{lies}
use Rattle.arc_owners.specs.contracts.memory.box_place.BoxPlace.{the_row}

pub send : (T A : RattleType) (g : Ghosts A.Denot) → IsSend T → IsSend A → Frees g g.dealloc_token
    → IsSend (the_row T A g)
send T A g s sa f =
    record {
      owned =
          λ d vs. (
            (λ vss. (tt, (tt, ((λ uss. (tt, tt)), tt)))),
            (lies T s d.at d.value, f.frees d.alloc (raw (lone T.mir)) d.at),
          );
      leaving = λ k e vs. tt;
    }
