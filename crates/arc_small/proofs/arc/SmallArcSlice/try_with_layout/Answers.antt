-- The window that was made is the small one's.
use Rattle.std.proofs.Common.{sym}
use Rattle.arc_small.proofs.arc.SmallArcSlice.try_with_layout.Goals as goal

pub returns-in-Ok-clause-moved : goal.returns-in-Ok-clause-moved
returns-in-Ok-clause-moved g c =
    rw (sym c.in-Right.ensures) (rw c.from-in-Ok.ensures c.in-Ok.ensures.moved)
