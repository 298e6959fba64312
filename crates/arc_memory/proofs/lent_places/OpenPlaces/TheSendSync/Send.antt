use denote.RattleType.{RattleType}
use denote.Param.Send.{IsSend}
use Rattle.arc_memory.proofs.Keyless.{open_part}
use Rattle.arc_memory.specs.contracts.lent_places.OpenPlaces.{the_row}

pub send : (T : RattleType) → IsSend T → IsSend (the_row T)
send T s = record {
  owned =
      λ d vs. (
        (λ vss. (tt, ((λ uss. (tt, tt)), tt))),
        open_part T s d.memory d.start d.share
            d.count,
      );
  leaving = λ k e vs. tt;
}
