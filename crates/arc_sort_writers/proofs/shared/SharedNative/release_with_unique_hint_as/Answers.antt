-- The lifetime has ended for which the block's memory was lent.
use Rattle.std.proofs.Common.{ap, ◌∙◌}
use Rattle.arc_memory.specs.SharedWriters.{writer_value, writer_range}
use Rattle.arc_sort_writers.proofs.Takes.{kept_until}
use Rattle.arc_sort_writers.proofs.shared.SharedNative.release_with_unique_hint_as.Goals as goal

pub free-requires-clause-ended : goal.free-requires-clause-ended
free-requires-clause-ended g c = let w = c.self.inside.writer in
    kept_until (writer_value w) c.take_up-count.result.2
    (c.take_up-count.ensures.same.1 ∙ c.in-Ok.ensures.sole.1) (writer_range w).memory
    c.in-Ok.ended.lifetime c.self.invariant.1 c.in-Ok.ensures.ended

pub free-requires-in-Some-clause-ended : goal.free-requires-in-Some-clause-ended
free-requires-in-Some-clause-ended g c =
    let w = c.self.inside.writer in let back = c.in-Err.ensures.back in
    kept_until (writer_value w) c.in-Some.kept (c.in-Some.ensures.value ∙ back.0.1)
    (writer_range w).memory c.in-Some.ended.lifetime c.self.invariant.1
    (c.in-Some.ensures.ended ∙ ap (λ r. r.memory.lifetime) back.1.0)
