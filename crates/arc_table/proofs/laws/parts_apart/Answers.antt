-- Of the definitions of parts and of a join.
use Rattle.arc_commands.proofs.Several.{joined_parted, split_parted}
use Rattle.arc_table.proofs.laws.parts_apart.Goals as goal

pub returns-clause-split : goal.returns-clause-split
returns-clause-split g c row at = split_parted row at

pub returns-clause-joined : goal.returns-clause-joined
returns-clause-joined g c row other = joined_parted row other
