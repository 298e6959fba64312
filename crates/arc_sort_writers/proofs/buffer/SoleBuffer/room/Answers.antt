-- Where there is room, by what the buffer has.
use Rattle.std.proofs.Common.{arith}
use Rattle.std.proofs.lemmas.Grind.{common_steps}
use Rattle.arc_sort_writers.proofs.buffer.SoleBuffer.room.Goals as goal

pub returns-then-additional-capacity-2-clause-front :
    goal.returns-then-additional-capacity-2-clause-front
returns-then-additional-capacity-2-clause-front g c = grind (arith, common_steps)

pub returns-then-additional-capacity-2-clause-room :
    goal.returns-then-additional-capacity-2-clause-room
returns-then-additional-capacity-2-clause-room g c = grind (arith, common_steps)

pub returns-clause-room : goal.returns-clause-room
returns-clause-room g c = grind (arith, common_steps)
