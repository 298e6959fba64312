-- By search.
use Rattle.std.proofs.Common.{rules}
use Rattle.arc_read.proofs.slice.ArcSlice.drop_with_unique_hint.Goals as goal

pub returns : goal.returns
returns g c = search rules
