-- By search.
use Rattle.std.proofs.Common.{rules}
use Rattle.arc_owners.proofs.mark.OpenMark.let_go.Goals as goal

pub returns-clause-ended : goal.returns-clause-ended
returns-clause-ended c = search rules
