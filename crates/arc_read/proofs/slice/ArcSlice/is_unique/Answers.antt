-- By search.
use Rattle.std.proofs.Common.{rules}
use Rattle.arc_read.proofs.slice.ArcSlice.is_unique.Goals as goal

pub returns : goal.returns
returns g c = search rules
