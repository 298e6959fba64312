use denote.RattleType.{RattleType}
use denote.Param.Send.{IsSend, IsSync}
use Rattle.arc_owners.specs.memory.LentSlices.{shown_for}
use Rattle.arc_owners.proofs.memory.LentSlices.{lent_keyless}
use Rattle.arc_owners.specs.contracts.memory.shown.Shown.{the_row}

pub send : (T V : RattleType) → IsSync T → IsSend (the_row T V)
send T V y = record {
  owned = λ d vs. (
    (λ vss. (tt, ((λ uss. (tt, tt)), tt))),
    lent_keyless T y d.at d.items (shown_for T V d.lifetime),
  );
  leaving = λ k f vs. tt;
}
