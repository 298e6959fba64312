-- The reply is the one that the windows gave; its text stands in out, or there was no room for it.
use Rattle.std.proofs.Common.{Some, ap, ◌∙◌}
use Rattle.arc_forms.specs.Seen.{line_reply}
use Rattle.std.specs.Vec.{vec_items}
use Rattle.arc_forms.proofs.Forms.{on_err}
use Rattle.arc_script.proofs.Going.{on_ok_then}
use Rattle.arc_script.proofs.States.{shown_said}
use Rattle.arc_script.proofs.script.answer.Goals as goal

pub returns-in-Some-Show : goal.returns-in-Some-Show
returns-in-Some-Show g c =
    let reply = line_reply (λ items. items.now) c.show_in_place.result in
    let does =
    shown_said g.L.NamedLayout.named g.met.L.NamedLayout.run_so
    (c.in-Some-Show.is ∙ ap (λ command. Some command) c.in-Some-Show.field-0-is)
    c.in-Some-Show.window-is c.show_in_place.ensures.carried c.show_in_place.ensures.lent in
    let push = c.push_answer in
    record {
      ok = on_ok_then push.result push.ensures.ok (λ wrote.
          record { answer = Some reply; does = does; appended = wrote });
      err = push.ensures.err;
      broken = on_err push.result (Some reply, does);
    }
