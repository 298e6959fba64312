-- A step keeps the agreement, and so does a run.
use Rattle.arc_commands.proofs.Blocks.{step_agrees, run_agrees}
use Rattle.arc_table.proofs.States.{rows_run}
use Rattle.arc_table.proofs.laws.rows_agree.Goals as goal

pub returns-clause-step : goal.returns-clause-step
returns-clause-step g c setting old command reply new = step_agrees setting old command reply new

pub returns-clause-run : goal.returns-clause-run
returns-clause-run g c setting old commands replies new =
    run_agrees setting old commands replies new

pub returns-clause-carried_out : goal.returns-clause-carried_out
returns-clause-carried_out g c setting old commands replies new run =
    run_agrees setting old.table commands replies new.table
    (rows_run setting old commands replies new run)
