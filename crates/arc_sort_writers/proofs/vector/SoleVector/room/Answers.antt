-- Where there is room, by what the vector has.
use Rattle.std.proofs.Common.{arith}
use Rattle.std.proofs.lemmas.Grind.{common_steps}
use Rattle.arc_sort_writers.proofs.vector.SoleVector.room.Goals as goal

pub returns-clause-room : goal.returns-clause-room
returns-clause-room g c = grind (arith, common_steps)
