use denote.RattleType.{RattleType}
use denote.Param.Send.{IsSend}
use Rattle.arc_owners.specs.contracts.count.word.OwnerToken.{the_row}
use Rattle.arc_owners.proofs.count.Shared.{right_keyless}

pub send : (T : RattleType) → IsSend (the_row T)
send T = record {
  owned =
      λ d vs. (
        (λ vss. (tt, ((λ uss. (tt, tt)), tt))),
        right_keyless d.held d.block d.owner d.lease
            d.born,
      );
  leaving = λ k f vs. tt;
}
