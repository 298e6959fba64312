-- The reply is the one that the windows gave; its text stands in out, or there was no room for it.
use Rattle.std.proofs.Common.{Some, subst}
use Rattle.arc_forms.specs.Seen.{line_command, line_reply}
use Rattle.std.specs.Vec.{vec_items}
use Rattle.arc_commands.specs.State.{CarriesOut}
use Rattle.arc_script.specs.State.{CarriesOutSaid}
use Rattle.arc_forms.proofs.Forms.{on_err}
use Rattle.arc_script.proofs.Going.{on_ok_then}
use Rattle.arc_script.proofs.States.{may_need}
use Rattle.arc_script.proofs.script.answer_command.Goals as goal

pub returns : goal.returns
returns g c =
    let table = c.args.table.now in
    let reply = line_reply vec_items c.step_here-reply.result in
    let does : CarriesOutSaid g.L.NamedLayout.named table (Some (line_command c.args.command))
    (Some reply)
    c.step_here-reply.new.self = (
      subst (λ s. CarriesOut s table (line_command c.args.command) reply
          c.step_here-reply.new.self) g.met.L.NamedLayout.run_so c.step_here-reply.ensures.carried,
      may_need (line_command c.args.command) reply c.requires,
    ) in
    let push = c.push_answer in
    record {
      ok = on_ok_then push.result push.ensures.ok (λ wrote.
          record { answer = Some reply; does = does; appended = wrote });
      err = push.ensures.err;
      broken = on_err push.result (Some reply, does);
    }
