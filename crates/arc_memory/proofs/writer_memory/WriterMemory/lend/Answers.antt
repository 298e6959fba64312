-- Arithmetic at once, without a search before it.
use Rattle.std.proofs.Common.{arith}
use Rattle.std.proofs.lemmas.Grind.{common_steps}
use Rattle.arc_memory.proofs.writer_memory.WriterMemory.lend.Goals as goal

pub lend-part-requires-clause-before : goal.lend-part-requires-clause-before
lend-part-requires-clause-before g c = grind (arith, common_steps)
