-- Arithmetic at once, without a search before it.
use Rattle.std.proofs.Common.{arith}
use Rattle.std.proofs.lemmas.Grind.{common_steps}
use Rattle.arc_memory.proofs.writer_part.WriterPart.freeze.Goals as goal

pub returns-clause-range : goal.returns-clause-range
returns-clause-range g c = grind (arith, common_steps)

pub give_up-requires : goal.give_up-requires
give_up-requires g c = grind (arith, common_steps)
