-- Arithmetic at once, without a search before it.
use Rattle.std.proofs.Common.{arith}
use Rattle.std.proofs.lemmas.Grind.{common_steps}
use Rattle.arc_memory.proofs.writer_memory.WriterMemory.take_items.Goals as goal

pub free-requires-clause-empty : goal.free-requires-clause-empty
free-requires-clause-empty g c = grind (arith, common_steps)
