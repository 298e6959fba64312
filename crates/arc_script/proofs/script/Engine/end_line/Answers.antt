-- What was read is carried out, and answered.
use Rattle.arc_forms.proofs.Forms.{on_err}
use Rattle.arc_script.proofs.States.{line_ends, line_may_end}
use Rattle.arc_script.proofs.script.Engine.end_line.Goals as goal

pub returns-clause-ok : goal.returns-clause-ok
returns-clause-ok g c =
    line_ends _ _ _ _ _ c.in_ok-said.said _ _ c.in_ok-said.ensures c.in_ok-answer_said.ensures.ok

-- it is given, but isn't in out
pub returns-in_err-answer_said-clause-broken : goal.returns-in_err-answer_said-clause-broken
returns-in_err-answer_said-clause-broken g c =
    on_err c.from_residual-in_err-answer_said.result
    (line_may_end _ _ _ _ _ c.in_ok-said.said c.in_ok-said.ensures
    c.in_err-answer_said.ensures.broken)
