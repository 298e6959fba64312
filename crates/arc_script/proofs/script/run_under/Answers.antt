-- What was written is the text that the tables of the run say.
use Rattle.arc_script.specs.Script.{IsReplyText, BeginsReplyText, BreaksOff}
use Rattle.arc_script.specs.Underway.{IsThrough, IsBrokenOff, ThenEnds}
use Rattle.arc_script.proofs.Going.{on_ok_then, if_err_then}
use Rattle.arc_script.proofs.States.{exchange_as, exchange_whole_as, through_text, broken_text}
use Rattle.arc_script.proofs.States.{breaks_text}
use Rattle.arc_script.proofs.script.run_under.Goals as goal

pub returns-clause-ok : goal.returns-clause-ok
returns-clause-ok g c =
    let ran = c.run_to_end-result in
    on_ok_then ran.result.0 ran.ensures.ok
    (exchange_as (ThenEnds g.L.NamedLayout.named (IsThrough g.L.NamedLayout.named)
    ran.result.1.of_blocks.items)
    (IsReplyText g.L.NamedLayout.named) _ _ _ _
    (λ input text h. through_text h.0 input text h.1))

pub returns-clause-begun : goal.returns-clause-begun
returns-clause-begun g c =
    let ran = c.run_to_end-result in
    let passes = ran.result.1.of_blocks.items in
    let last = (g.R.Source.traffic ran.new.reader).last in
    if_err_then ran.result.0 ran.ensures.begun (λ fault.
    exchange_as
    (ThenEnds g.L.NamedLayout.named (IsBrokenOff g.L.NamedLayout.named fault last) passes)
    (BeginsReplyText g.L.NamedLayout.named) _ _ _ _
    (λ input text h. broken_text fault last h.0 input text h.1))

pub returns-clause-broken : goal.returns-clause-broken
returns-clause-broken g c =
    let ran = c.run_to_end-result in
    let passes = ran.result.1.of_blocks.items in
    let last = (g.R.Source.traffic ran.new.reader).last in
    if_err_then ran.result.0 ran.ensures.begun (λ fault.
    exchange_as
    (ThenEnds g.L.NamedLayout.named (IsBrokenOff g.L.NamedLayout.named fault last) passes)
    (BreaksOff g.L.NamedLayout.named fault last) _ _ _ _
    (λ input text h. breaks_text g.L.NamedLayout.named fault last h.0 input text h.1))

pub returns-clause-answered : goal.returns-clause-answered
returns-clause-answered g c =
    let named = g.L.NamedLayout.named in
    let ran = c.run_to_end-result in
    if_err_then ran.result.0 ran.ensures.answered (λ fault told is.
    exchange_whole_as (ThenEnds named (IsThrough named) ran.result.1.of_blocks.items)
    (IsReplyText named) _ _ _ _
    (λ input text h. through_text h.0 input text h.1) (told is))
