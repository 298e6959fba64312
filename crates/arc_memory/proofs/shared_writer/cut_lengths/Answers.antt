-- Arithmetic at once, without a search before it.
use Rattle.std.proofs.Common.{arith}
use Rattle.std.proofs.lemmas.Grind.{common_steps}
use Rattle.arc_memory.proofs.shared_writer.cut_lengths.Goals as goal

pub returns-else-at-len : goal.returns-else-at-len
returns-else-at-len c = grind (arith, common_steps)
