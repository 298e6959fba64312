-- The reply is the one that the windows gave; its text stands in out, or there was no room for it.
use Rattle.std.proofs.Common.{Some, ap, refl, subst, ◌∙◌}
use Rattle.std.specs.Option.{option_map}
use Rattle.arc_forms.specs.Seen.{line_command, line_reply}
use Rattle.std.specs.Vec.{vec_items}
use Rattle.arc_commands.specs.State.{CarriesOut}
use Rattle.arc_script.specs.State.{CarriesOutSaid}
use Rattle.arc_forms.proofs.Forms.{on_err}
use Rattle.arc_script.proofs.Going.{on_ok_then}
use Rattle.arc_script.proofs.States.{may_need, not_lends, shown_said}
use Rattle.arc_script.proofs.script.answer_said.Goals as goal

pub returns-in-Show : goal.returns-in-Show
returns-in-Show g c =
    let reply = line_reply (λ items. items.now) c.show_in_place.result in
    let does =
    shown_said g.L.NamedLayout.named g.met.L.NamedLayout.run_so
    (c.in-Some.is ∙ ap (λ command. Some command) c.in-Show.is)
    refl c.show_in_place.ensures.carried c.show_in_place.ensures.lent in
    let push = c.push_answer in
    record {
      ok = on_ok_then push.result push.ensures.ok (λ wrote.
          record { answer = Some reply; does = does; appended = wrote });
      err = push.ensures.err;
      broken = on_err push.result (Some reply, does);
    }

pub returns-in_default : goal.returns-in_default
returns-in_default g c =
    let table = c.args.table.now in
    let reply = line_reply vec_items c.step-reply.result in
    let does : CarriesOutSaid g.L.NamedLayout.named table (option_map line_command c.args.said)
    (Some reply)
    c.step-reply.new.self =
    rw c.in-Some.is (
      subst (λ s. CarriesOut s table (line_command c.in-Some.command) reply
          c.step-reply.new.self) g.met.L.NamedLayout.run_so c.step-reply.ensures.carried,
      may_need (line_command c.in-Some.command) reply
          (not_lends c.in-Some.command c.in_default.not-Show),
    ) in
    let push = c.push_answer-in-Some in
    record {
      ok = on_ok_then push.result push.ensures.ok (λ wrote.
          record { answer = Some reply; does = does; appended = wrote });
      err = push.ensures.err;
      broken = on_err push.result (Some reply, does);
    }
