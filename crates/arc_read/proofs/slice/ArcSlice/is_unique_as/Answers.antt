-- By search.
use Rattle.std.proofs.Common.{rules}
use Rattle.arc_read.proofs.slice.ArcSlice.is_unique_as.Goals as goal

pub returns-clause-entry : goal.returns-clause-entry
returns-clause-entry g c = search rules

pub returns-clause-own : goal.returns-clause-own
returns-clause-own g c = search rules
