-- The items stand at the vector's front, with all its places.
use Rattle.std.proofs.Common.{arith}
use Rattle.std.proofs.lemmas.Grind.{common_steps}
use Rattle.arc_sort_writers.proofs.vector.SoleVector.to_front.Goals as goal

pub returns-clause-room : goal.returns-clause-room
returns-clause-room g c = grind (arith, common_steps)

pub returns-clause-shifted : goal.returns-clause-shifted
returns-clause-shifted g c = grind (arith, common_steps)
