use Rattle.std.proofs.Common.{◌-◌, ◌≤◌}
use Rattle.std.specs.Mem.Slots.{SamePlaces}
use Rattle.std.specs.Mem.Slots.Ownership.{Filled}
use Rattle.arc_memory.proofs.writer_places.drop_first.Given as goal

-- the slots are the same, and those from i on still hold a value each
abbrev pub invariant-loop-i : goal.invariant-loop-i
invariant-loop-i g l =
    SamePlaces l.fn.slots l.slots × (l.count ≤ l.slots.len) × Filled l.slots.filled l.i l.count

abbrev pub decreases-loop-i : goal.decreases-loop-i
decreases-loop-i g l = l.count - l.i
