use denote.Param.Send.{IsSend}
use Rattle.arc_owners.specs.contracts.count.word.PassState.{the_row}
use Rattle.arc_owners.proofs.count.Shared.{trace_keyless}

pub send : IsSend the_row
send = record {
  owned =
      λ d vs. (
        (λ vss. (tt, ((λ uss. (tt, tt)), tt))),
        trace_keyless d.bound d.block d.number d.ready
            d.lines,
      );
  leaving = λ k f vs. tt;
}
