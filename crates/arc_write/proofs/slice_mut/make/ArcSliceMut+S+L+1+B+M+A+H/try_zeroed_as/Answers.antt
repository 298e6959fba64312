use Rattle.arc_write.proofs.Zeros.{zeros_legal}
use Rattle.arc_write.proofs.slice_mut.make.ArcSliceMut+S+L+1+B+M+A+H.try_zeroed_as.Goals as goal

pub from_parts-requires-clause-legal : goal.from_parts-requires-clause-legal
from_parts-requires-clause-legal g c =
    zeros_legal g.S.Slice.is_legal g.S.Slice.DROPS g.H.Mark.whole
    g.S.Zeroable.zero_item _ _ _ _ c.in-Ok.ensures.made (g.met.S.Zeroable.zeros_are_legal _)
