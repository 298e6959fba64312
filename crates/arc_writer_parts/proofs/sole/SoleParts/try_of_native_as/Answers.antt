-- The places that were taken are the writer's.
use Rattle.std.proofs.Common.{◌∙◌, arith}
use Rattle.arc_owners.specs.memory.SoleCounts.{count_owner}
use Rattle.arc_sort_writers.proofs.SoleNatives.{taken_within, taken_native}
use Rattle.arc_writer_parts.proofs.sole.SoleParts.try_of_native_as.Goals as goal

pub over-requires-clause-range : goal.over-requires-clause-range
over-requires-clause-range g c =
    let inside = taken_within g.S.Slice.DROPS (count_owner c.in-Ok.count) c.in-Ok.memory
    c.args.block
    c.args.start c.args.end c.in-Ok.ensures.sole.0 c.requires.within.0 in (
      omega (arith, inside.1, c.start-first.ensures),
      omega (arith, inside.2, c.start-first.ensures),
    )

pub returns-in-Ok-clause-sole : goal.returns-in-Ok-clause-sole
returns-in-Ok-clause-sole g c =
    taken_native g.S.Slice.DROPS (count_owner c.in-Ok.count) c.in-Ok.memory c.args.block
    c.args.start
    c.args.end c.start-first.result c.in_native.result c.in-Ok.ensures.sole.0
    c.requires.within.0 c.start-first.ensures (c.in_native.ensures ∙ c.over.ensures)
