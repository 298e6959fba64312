-- By search.
use Rattle.std.proofs.Common.{rules}
use Rattle.arc_write.proofs.slice_mut.make.ArcSliceMut+S+L+1+B+M+A+H.try_with_capacity.Goals as goal

pub returns-clause-made : goal.returns-clause-made
returns-clause-made g c = search rules
