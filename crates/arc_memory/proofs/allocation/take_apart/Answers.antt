-- By search.
use Rattle.std.proofs.Common.{rules}
use Rattle.arc_memory.proofs.allocation.take_apart.Goals as goal

pub invariant_of-result : goal.invariant_of-result
invariant_of-result g c = search rules
