-- By search.
use Rattle.std.proofs.Common.{rules}
use Rattle.arc_write.proofs.slice_mut.make.ArcSliceMut+S+L+1+B+M+A+H.try_with_capacity_as.Goals as goal

pub returns-in-Ok-clause-made : goal.returns-in-Ok-clause-made
returns-in-Ok-clause-made g c = search rules
