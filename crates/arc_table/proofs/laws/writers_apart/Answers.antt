-- A step keeps it, and so does a run.
use Rattle.arc_commands.proofs.Apart.{empty_lawful, step_lawful, run_lawful}
use Rattle.arc_table.proofs.States.{rows_run}
use Rattle.arc_table.proofs.laws.writers_apart.Goals as goal

pub returns-clause-empty : goal.returns-clause-empty
returns-clause-empty g c drops = empty_lawful drops

pub returns-clause-step : goal.returns-clause-step
returns-clause-step g c setting old command reply new =
    step_lawful setting old command reply new

pub returns-clause-run : goal.returns-clause-run
returns-clause-run g c setting old commands replies new =
    run_lawful setting old commands replies new

pub returns-clause-carried_out : goal.returns-clause-carried_out
returns-clause-carried_out g c setting old commands replies new run =
    run_lawful setting old.table commands replies new.table
    (rows_run setting old commands replies new run)
