-- The items lie within the buffer's places.
use Rattle.std.proofs.Common.{arith}
use Rattle.std.proofs.lemmas.Grind.{common_steps}
use Rattle.arc_sort_writers.proofs.buffer.SoleBuffer.capacity.Goals as goal

pub returns-then-self-as_slice-clause-enough : goal.returns-then-self-as_slice-clause-enough
returns-then-self-as_slice-clause-enough g c = grind (arith, common_steps)
