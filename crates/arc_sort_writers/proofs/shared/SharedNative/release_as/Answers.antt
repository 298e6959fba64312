-- The lifetime has ended for which the block's memory was lent.
use Rattle.arc_memory.specs.SharedWriters.{writer_value, writer_range}
use Rattle.arc_sort_writers.proofs.Takes.{kept_until}
use Rattle.arc_sort_writers.proofs.shared.SharedNative.release_as.Goals as goal

pub free-requires-clause-ended : goal.free-requires-clause-ended
free-requires-clause-ended g c = let w = c.self.inside.writer in
    kept_until (writer_value w) c.in-Some.kept c.in-Some.ensures.value (writer_range w).memory
    c.in-Some.ended.lifetime c.self.invariant.1 c.in-Some.ensures.ended
