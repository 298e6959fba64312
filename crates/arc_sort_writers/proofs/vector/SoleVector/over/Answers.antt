-- Those behind the items are gone, or stay.
use Rattle.std.proofs.Common.{arith}
use Rattle.std.proofs.lemmas.Grind.{common_steps}
use Rattle.arc_sort_writers.proofs.vector.SoleVector.over.Goals as goal

pub returns : goal.returns
returns g c = grind (arith, common_steps)
