use denote.RattleType.{RattleType}
use denote.Param.Send.{IsSend, IsSync}
use Rattle.arc_memory.proofs.Keyless.{frozen_part}
use Rattle.arc_memory.specs.contracts.frozen_places.FrozenPlaces.{the_row}

pub send : (T : RattleType) → IsSync T → IsSend (the_row T)
send T y = record {
  owned =
      λ d vs. ((λ vss. (tt, ((λ uss. (tt, tt)), tt))), frozen_part T y d.memory d.start d.items);
  leaving = λ k e vs. tt;
}
