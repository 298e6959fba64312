use denote.Param.Send.{IsSync}
use Rattle.arc_owners.specs.contracts.count.cell.Cell.{the_row}
use Rattle.core.proofs.atomic.Sent.{chain-Keyless}
use Rattle.arc_owners.proofs.count.Shared.{cell_keyless}

pub sync : IsSync the_row
sync = record {
  shared =
      λ t b o κ z. ((λ νs. chain-Keyless νs κ z.0), ((λ _. tt), cell_keyless t b o));
}
