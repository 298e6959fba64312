-- What most lines say is carried out, and answered.
use Rattle.std.proofs.Common.{Some, false, subst}
use Rattle.std.specs.Prelude.{IfSome}
use Rattle.arc_forms.specs.Seen.{IsReadAs, line_command}
use Rattle.arc_forms.specs.Text.{Says}
use Rattle.arc_script.proofs.Going.{on_err_then, on_ok_then}
use Rattle.arc_script.proofs.States.{line_ends, line_may_end}
use Rattle.arc_script.proofs.script.Engine.answer_in_place.Goals as goal

pub returns-in-Ok-Some-clause-ok : goal.returns-in-Ok-Some-clause-ok
returns-in-Ok-Some-clause-ok g c =
    let read = subst
    (λ said. IfSome said (λ d. Says c.args.line.now (line_command d)))
    c.in-Ok-Some.field-0-is c.in-Ok-Some.ensures.ok in
    on_ok_then c.answer.result c.answer.ensures.ok
    (line_ends _ c.args.line.now false _ _ (Some c.in-Ok-Some.command) _ _
    (λ line holds. subst (λ xs. IsReadAs xs (Some c.in-Ok-Some.command)) holds read))

pub returns-in-Ok-Some-clause-broken : goal.returns-in-Ok-Some-clause-broken
returns-in-Ok-Some-clause-broken g c =
    let read = subst
    (λ said. IfSome said (λ d. Says c.args.line.now (line_command d)))
    c.in-Ok-Some.field-0-is c.in-Ok-Some.ensures.ok in
    on_err_then c.answer.result c.answer.ensures.broken
    (line_may_end _ c.args.line.now false _ _ (Some c.in-Ok-Some.command)
    (λ line holds. subst (λ xs. IsReadAs xs (Some c.in-Ok-Some.command)) holds read))
