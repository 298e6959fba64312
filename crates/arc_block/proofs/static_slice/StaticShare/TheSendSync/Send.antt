use Rattle.std.proofs.Common.{[]}
use denote.RattleType.{RattleType}
use denote.Param.Send.{IsSend, IsSync}
use Rattle.arc_owners.proofs.LentSlices.{lent_keyless}
use Rattle.arc_block.specs.contracts.static_slice.StaticShare.{the_row}

pub send : (T : RattleType) → IsSync T → IsSend (the_row T)
send T y = record {
  owned =
      λ d vs. ((λ vss. (tt, ((λ uss. (tt, tt)), tt))), lent_keyless T y d.ptr d.items []);
  leaving =
      λ k f vs. tt;
}
