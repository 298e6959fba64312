-- Of these kinds each list is legal.
use Rattle.arc_write.proofs.slice_mut.buffers.ArcSliceMut+S+L+1+B+M+A+H.try_from_held_buffer_as.Goals as goal

pub from_parts-requires-clause-legal : goal.from_parts-requires-clause-legal
from_parts-requires-clause-legal g c = ∣ g.met.S.AnyItems.all_are_legal _ ∣₁
