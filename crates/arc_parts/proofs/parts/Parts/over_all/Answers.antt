-- Arithmetic at once, without a search before it.
use Rattle.std.proofs.Common.{arith}
use Rattle.std.proofs.lemmas.Grind.{common_steps}
use Rattle.arc_parts.proofs.parts.Parts.over_all.Goals as goal

pub returns : goal.returns
returns g c = grind (arith, common_steps)
