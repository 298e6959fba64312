use Rattle.std.proofs.Common.{◌≡◌, replicate}
use Rattle.arc_block.specs.Table.{bare}
use Rattle.arc_parts.specs.Writers.{with_more}
use Rattle.arc_write.proofs.slice_mut.WriteWindow.fill.Given as goal

abbrev pub invariant-loop : goal.invariant-loop
invariant-loop g l = bare l.self
    ≡ with_more (replicate l.counter l.byte) (bare l.initial.self)
