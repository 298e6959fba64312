-- What was read is carried out, and answered.
use Rattle.std.proofs.Common.{false, subst}
use Rattle.arc_forms.specs.Seen.{IsReadAs}
use Rattle.arc_script.proofs.Going.{on_err_then, on_ok_then}
use Rattle.arc_script.proofs.States.{line_ends, line_may_end}
use Rattle.arc_script.proofs.script.Engine.answer_any.Goals as goal

pub returns-clause-ok : goal.returns-clause-ok
returns-clause-ok g c =
    on_ok_then c.answer_said.result c.answer_said.ensures.ok
    (line_ends _ c.args.line.now false _ _ c.in_ok-said.said _ _
    (λ line holds. subst (λ xs. IsReadAs xs c.in_ok-said.said) holds c.in_ok-said.ensures.ok))

pub returns-clause-broken : goal.returns-clause-broken
returns-clause-broken g c =
    on_err_then c.answer_said.result c.answer_said.ensures.broken
    (line_may_end _ c.args.line.now false _ _ c.in_ok-said.said
    (λ line holds. subst (λ xs. IsReadAs xs c.in_ok-said.said) holds c.in_ok-said.ensures.ok))
