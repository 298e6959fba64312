use denote.RattleType.{RattleType}
use denote.Param.Send.{IsSend}
use Rattle.arc_memory.proofs.Keyless.{places}
use Rattle.arc_memory.specs.contracts.places.Places.{the_row}

pub send : (T : RattleType) → IsSend T → IsSend (the_row T)
send T s = record {
  owned =
      λ d vs. (
        (λ vss. (tt, ((λ uss. (tt, tt)), tt))),
        places T s d.base d.whole d.start d.count
            d.items,
      );
  leaving = λ k e vs. tt;
}
