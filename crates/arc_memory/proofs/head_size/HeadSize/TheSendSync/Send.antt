use denote.RattleType.{RattleType}
use denote.Param.Send.{IsSend}
use Rattle.arc_memory.specs.contracts.head_size.HeadSize.{the_row}

pub send : (X : RattleType) → IsSend (the_row X)
send X = record {
  owned = λ d vs. ((λ vss. (tt, ((λ uss. (tt, tt)), tt))), tt);
  leaving =
      λ k e vs. tt;
}
