use denote.Param.Send.{IsSend}
use Rattle.arc_owners.specs.contracts.count.word.Word.{the_row}
use Rattle.arc_owners.proofs.count.Shared.{behind_keyless}

pub send : IsSend the_row
send = record {
  owned =
      λ t vs. ((λ _. tt), λ n. ((λ vss. (tt, ((tt, tt), tt))), behind_keyless t n));
  leaving =
      λ k d w. tt;
}
