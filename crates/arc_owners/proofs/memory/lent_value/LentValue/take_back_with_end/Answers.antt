-- By search.
use Rattle.std.proofs.Common.{rules}
use Rattle.arc_owners.proofs.memory.lent_value.LentValue.take_back_with_end.Goals as goal

pub returns-clause-ended : goal.returns-clause-ended
returns-clause-ended g c = search rules
