use denote.Param.Send.{IsSend}
use Rattle.arc_owners.specs.contracts.count.cell.Cell.{the_row}
use Rattle.arc_owners.proofs.count.Shared.{held_keyless}

pub send : IsSend the_row
send = record {
  owned =
      λ t vs. ((λ _. tt), λ x. ((λ vss. (tt, (tt, tt))), held_keyless t x));
  leaving =
      λ k d w. tt;
}
