use denote.Param.Send.{IsSend}
use Rattle.arc_owners.specs.contracts.count.word.EndTokens.{the_row}
use Rattle.arc_owners.proofs.count.Shared.{end_tokens_keyless}

pub send : IsSend the_row
send = record {
  owned =
      λ d vs. ((λ vss. (tt, ((λ uss. (tt, tt)), tt))), end_tokens_keyless d.lease d.last);
  leaving =
      λ k f vs. tt;
}
