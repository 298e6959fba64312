use denote.Param.Send.{IsSend}
use Rattle.arc_owners.specs.contracts.lifetime.EndedLifetime.{the_row}

pub send : IsSend the_row
send = record {
  owned = λ d vs. ((λ vss. (tt, ((λ uss. (tt, tt)), tt))), tt);
  leaving =
      λ k e vs. tt;
}
