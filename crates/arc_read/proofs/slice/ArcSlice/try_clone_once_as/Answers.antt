-- By search.
use Rattle.std.proofs.Common.{rules}
use Rattle.arc_read.proofs.slice.ArcSlice.try_clone_once_as.Goals as goal

pub returns-in-Err-clause-refused : goal.returns-in-Err-clause-refused
returns-in-Err-clause-refused g c = search rules
