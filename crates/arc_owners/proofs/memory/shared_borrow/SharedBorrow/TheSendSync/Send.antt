use Rattle.std.proofs.Common.{[], ◌∷◌}
use denote.RattleType.{RattleType}
use denote.Param.Send.{IsSend, IsSync}
use Rattle.std_alloc.proofs.SendSync.{seen}
use Rattle.arc_owners.specs.contracts.memory.shared_borrow.SharedBorrow.{the_row}

pub send : (T : RattleType) → IsSync T → IsSend (the_row T)
send T y = record {
  owned =
      λ d vs. ((λ vss. (tt, ((λ uss. (tt, tt)), tt))), seen T y d.at d.value (d.lifetime ∷ []));
  leaving = λ k f vs. tt;
}
