-- The run left the windows in a state from which they ended.
use Rattle.arc_script.specs.Underway.{IsThrough, IsBrokenOff, ThenEnds}
use Rattle.arc_script.proofs.Going.{on_ok_then, if_err_then}
use Rattle.arc_script.proofs.States.{exchange_as, exchange_whole_as}
use Rattle.arc_script.proofs.script.run_to_end.Goals as goal

pub returns-clause-ok : goal.returns-clause-ok
returns-clause-ok g c =
    let state = c.run-result.new.self.table in
    on_ok_then c.run-result.result c.run-result.ensures.ok
    (exchange_as (IsThrough g.L.NamedLayout.named state)
    (ThenEnds g.L.NamedLayout.named (IsThrough g.L.NamedLayout.named) c.end.result.of_blocks.items)
    _ _ _ _
    (λ input text ran. (state, ran, c.end.ensures.passes)))

pub returns-clause-begun : goal.returns-clause-begun
returns-clause-begun g c =
    let state = c.run-result.new.self.table in
    let passes = c.end.result.of_blocks.items in
    let last = (g.R.Source.traffic c.run-result.new.reader).last in
    if_err_then c.run-result.result c.run-result.ensures.begun (λ fault.
    exchange_as (IsBrokenOff g.L.NamedLayout.named fault last state)
    (ThenEnds g.L.NamedLayout.named (IsBrokenOff g.L.NamedLayout.named fault last) passes) _ _ _ _
    (λ input text ran. (state, ran, c.end.ensures.passes)))

pub returns-clause-answered : goal.returns-clause-answered
returns-clause-answered g c =
    let named = g.L.NamedLayout.named in
    let state = c.run-result.new.self.table in
    if_err_then c.run-result.result c.run-result.ensures.answered (λ fault told is.
    exchange_whole_as (IsThrough named state)
    (ThenEnds named (IsThrough named) c.end.result.of_blocks.items) _ _ _ _
    (λ input text ran. (state, ran, c.end.ensures.passes)) (told is))
