-- Arithmetic at once, without a search before it.
use Rattle.std.proofs.Common.{arith}
use Rattle.std.proofs.lemmas.Grind.{common_steps}
use Rattle.arc_read.proofs.borrow.ArcSliceBorrow.as_slice.Goals as goal

pub returns : goal.returns
returns g c = grind (arith, common_steps)
