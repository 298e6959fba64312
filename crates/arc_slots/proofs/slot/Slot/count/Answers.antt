use Rattle.std.proofs.Common.{ap}
use Rattle.arc_commands.specs.declared.command.Reply.TheVariants as reply
use Rattle.arc_slots.proofs.Answered.{counted}
use Rattle.arc_slots.proofs.Same.{reply-same}
use Rattle.arc_slots.proofs.slot.Slot.count.Goals as goal

pub returns : goal.returns
returns g c next i =
    reply-same (ap reply.Number c.len.ensures) (counted _ next _ _ i c.known_role.ensures)
