-- By search.
use Rattle.std.proofs.Common.{rules}
use Rattle.arc_memory.proofs.native.Native.range.Goals as goal

pub returns : goal.returns
returns g c = search rules
