use Rattle.arc_read.proofs.slice.ArcSlice.try_from_raw_buffer_as.Goals as goal

pub from_parts-requires-clause-legal : goal.from_parts-requires-clause-legal
from_parts-requires-clause-legal g c = ∣ g.met.S.AnyItems.all_are_legal _ ∣₁
