-- What he has of the block is the reader's part.
use Rattle.std.proofs.Common.{arith}
use Rattle.std.proofs.lemmas.Grind.{common_steps}
use Rattle.arc_writer_parts.proofs.sole.SoleParts.try_of_block_as.Goals as goal

pub returns-in-Ok-clause-sole : goal.returns-in-Ok-clause-sole
returns-in-Ok-clause-sole g c = grind (arith, common_steps)

pub returns-in-Ok-try_into_sole_buffer_as-clause-sole :
    goal.returns-in-Ok-try_into_sole_buffer_as-clause-sole
returns-in-Ok-try_into_sole_buffer_as-clause-sole g c = grind (arith, common_steps)
