-- The window that was made is the small one's.
use Rattle.arc_small.proofs.arc.SmallArcSlice.try_from_vec_as.Goals as goal

pub returns-in-Ok-clause-made : goal.returns-in-Ok-clause-made
returns-in-Ok-clause-made g c = rw c.from.ensures c.in-Ok.ensures.made
