-- How many places lie behind the items.
use Rattle.std.proofs.Common.{arith}
use Rattle.std.proofs.lemmas.Grind.{common_steps}
use Rattle.arc_sort_writers.proofs.vector.SoleVector.spare.Goals as goal

pub returns-then-self-len-clause-fits : goal.returns-then-self-len-clause-fits
returns-then-self-len-clause-fits g c = grind (arith, common_steps)

pub returns-then-self-len-clause-spare : goal.returns-then-self-len-clause-spare
returns-then-self-len-clause-spare g c = grind (arith, common_steps)

pub returns-then-self-len-clause-places : goal.returns-then-self-len-clause-places
returns-then-self-len-clause-places g c = grind (arith, common_steps)

pub returns-clause-spare : goal.returns-clause-spare
returns-clause-spare g c = grind (arith, common_steps)
