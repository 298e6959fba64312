-- Arithmetic at once, without a search before it.
use Rattle.std.proofs.Common.{arith}
use Rattle.std.proofs.lemmas.Grind.{common_steps}
use Rattle.arc_memory.proofs.writer_memory.WriterMemory.moved_to_front.Goals as goal

pub of-requires-clause-sizes : goal.of-requires-clause-sizes
of-requires-clause-sizes g c = grind (arith, common_steps)

pub moved_into-requires-clause-empty : goal.moved_into-requires-clause-empty
moved_into-requires-clause-empty g c = grind (arith, common_steps)
