use Rattle.std.proofs.Common.{ap}
use Rattle.arc_commands.specs.declared.command.Reply.TheVariants as reply
use Rattle.arc_slots.proofs.Answered.{taken, untaken}
use Rattle.arc_slots.proofs.Same.{reply-same, window-same}
use Rattle.arc_slots.proofs.slot.Slot.take_static.Goals as goal

pub returns-in-Ok : goal.returns-in-Ok
returns-in-Ok g c next i =
    reply-same (ap reply.Static c.in-Ok.ensures.items)
    (taken _ next _ _ i (c.is_read.ensures.reads c.if-not-is_read.false) c.in-Ok.ensures.taken)

pub returns-in-Err : goal.returns-in-Err
returns-in-Err g c next i =
    window-same c.in-Err.ensures.back
    (untaken _ next _ _ i (c.is_read.ensures.reads c.if-not-is_read.false)
    c.in-Err.ensures.refused)
