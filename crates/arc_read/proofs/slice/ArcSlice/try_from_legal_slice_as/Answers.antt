-- By search.
use Rattle.std.proofs.Common.{rules}
use Rattle.arc_read.proofs.slice.ArcSlice.try_from_legal_slice_as.Goals as goal

pub from_parts-requires-clause-held : goal.from_parts-requires-clause-held
from_parts-requires-clause-held g c = search rules
