-- By search.
use Rattle.std.proofs.Common.{rules, arith}
use Rattle.std.proofs.lemmas.Grind.{common_steps}
use Rattle.arc_read.proofs.adapters.read.ArcSlicePlainU8Read.read.Goals as goal

pub returns-clause-bytes : goal.returns-clause-bytes
returns-clause-bytes g c = grind (arith, common_steps)

pub returns-clause-window : goal.returns-clause-window
returns-clause-window g c = search rules
