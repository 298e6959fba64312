-- A step keeps the books right, and so does a run.
use Rattle.arc_table.proofs.Right.{empty_right, run_booked, run_right, step_right}
use Rattle.arc_table.proofs.States.{rows_run}
use Rattle.arc_table.proofs.laws.items_once.Goals as goal

pub returns-clause-empty : goal.returns-clause-empty
returns-clause-empty g c drops books = empty_right drops books

pub returns-clause-step : goal.returns-clause-step
returns-clause-step g c setting old command reply new books =
    step_right setting old command reply new books

pub returns-clause-booked : goal.returns-clause-booked
returns-clause-booked g c setting old commands replies new books =
    run_booked setting old commands replies new books

pub returns-clause-run : goal.returns-clause-run
returns-clause-run g c setting old commands replies new =
    run_right setting old commands replies new

pub returns-clause-carried_out : goal.returns-clause-carried_out
returns-clause-carried_out g c setting old commands replies new books run =
    run_booked setting old.table commands replies new.table books
    (rows_run setting old commands replies new run)
