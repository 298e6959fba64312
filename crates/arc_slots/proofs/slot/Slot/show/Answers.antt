-- A copy of the items is what the window shows.
use Rattle.std.proofs.Common.{◌≡◌, IfOk, ap, sym, ◌∙◌, subst}
use Rattle.std.specs.Vec.{vec_items}
use Rattle.arc_commands.specs.declared.command.Reply.TheVariants as reply
use Rattle.arc_slots.proofs.Answered.{shown}
use Rattle.arc_slots.proofs.Same.{reply-same}
use Rattle.arc_slots.proofs.slot.Slot.show.Goals as goal

pub returns-in-Ok : goal.returns-in-Ok
returns-in-Ok g c next i =
    let same : vec_items c.in-Ok.items ≡ c.args.self.now.window.items =
    subst (λ r. IfOk r (λ copy. vec_items copy ≡ c.as_slice.result.now)) c.in-Ok.is
    c.in-Some.ensures.copied ∙ c.as_slice.ensures in
    reply-same (ap reply.Items same)
    (shown _ next _ _ i c.known_role.ensures (sym c.copies.ensures ∙ c.if-not-copies.false))
