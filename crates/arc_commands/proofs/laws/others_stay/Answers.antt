-- A step leaves the other rows and histories as they were, and a run those rows that it isn't on.
use Rattle.arc_commands.proofs.OtherHistories.{adds-stay-others}
use Rattle.arc_commands.proofs.Others.{step-stays, run-stays}
use Rattle.arc_commands.proofs.laws.others_stay.Goals as goal

pub returns-clause-step : goal.returns-clause-step
returns-clause-step g c setting old command reply new = step-stays setting old command reply new

pub returns-clause-run : goal.returns-clause-run
returns-clause-run g c setting old commands replies new j run none =
    run-stays setting old commands replies new j run none

pub returns-clause-carried_out : goal.returns-clause-carried_out
returns-clause-carried_out g c setting old command reply new carried = record {
  rows = step-stays setting old.table command reply new.table carried.rows;
  histories =
      adds-stay-others setting old.table old.standing command reply new.standing carried.passes;
}
