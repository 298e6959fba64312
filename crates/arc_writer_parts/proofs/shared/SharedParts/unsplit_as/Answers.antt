-- Who stands on a native block, and who stands by himself, are of two blocks.
use Rattle.std.proofs.Common.{arith}
use Rattle.std.proofs.lemmas.Grind.{common_steps}
use Rattle.arc_writer_parts.proofs.shared.SharedParts.unsplit_as.Goals as goal

pub returns-in-Several-behind-2-clause-refused : goal.returns-in-Several-behind-2-clause-refused
returns-in-Several-behind-2-clause-refused g c = grind (arith, common_steps)

pub returns-in-Alone-behind-clause-refused : goal.returns-in-Alone-behind-clause-refused
returns-in-Alone-behind-clause-refused g c = grind (arith, common_steps)
