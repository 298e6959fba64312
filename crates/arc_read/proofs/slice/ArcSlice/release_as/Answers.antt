-- By search.
use Rattle.std.proofs.Common.{rules}
use Rattle.arc_read.proofs.slice.ArcSlice.release_as.Goals as goal

pub returns : goal.returns
returns g c = search rules
