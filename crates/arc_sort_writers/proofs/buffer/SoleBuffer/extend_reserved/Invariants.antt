-- What was pushed so far stands behind the others.
use Rattle.std.proofs.Common.{◌≡◌, take}
use Rattle.arc_block.specs.Table.{bare}
use Rattle.arc_parts.specs.Writers.{with_more}
use Rattle.arc_sort_writers.proofs.buffer.SoleBuffer.extend_reserved.Given as goal

abbrev pub invariant-loop-item : goal.invariant-loop-item
invariant-loop-item g l = bare l.self ≡ with_more (take l.item-index l.items) (bare l.initial.self)
