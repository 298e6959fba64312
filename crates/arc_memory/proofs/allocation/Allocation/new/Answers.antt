-- By search.
use Rattle.std.proofs.Common.{rules}
use Rattle.arc_memory.proofs.allocation.Allocation.new.Goals as goal

pub returns-in-Ok-clause-allocation : goal.returns-in-Ok-clause-allocation
returns-in-Ok-clause-allocation g c = search rules
