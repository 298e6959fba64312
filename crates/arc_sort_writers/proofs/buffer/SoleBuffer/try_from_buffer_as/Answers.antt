-- All of the buffer.
use Rattle.std.proofs.Common.{arith}
use Rattle.std.proofs.lemmas.Grind.{common_steps}
use Rattle.arc_sort_writers.proofs.buffer.SoleBuffer.try_from_buffer_as.Goals as goal

pub returns-in-Ok-clause-made : goal.returns-in-Ok-clause-made
returns-in-Ok-clause-made g c = grind (arith, common_steps)
