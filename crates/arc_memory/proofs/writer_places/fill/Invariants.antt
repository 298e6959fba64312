use Rattle.std.proofs.Common.{◌≡◌, ◌-◌, ◌≤◌, ◌++◌, take, replicate}
use Rattle.std.specs.Mem.Slots.{SamePlaces}
use Rattle.std.specs.Mem.Slots.Ownership.{Filled}
use Rattle.arc_memory.proofs.writer_places.fill.Given as goal

-- the slots before i hold the values that were there, and copies of the item behind them
abbrev pub invariant-loop-i : goal.invariant-loop-i
invariant-loop-i g l =
    SamePlaces l.fn.slots l.slots × (l.from ≤ l.i) × (l.i ≤ l.to) × Filled l.slots.filled 0 l.i
    × (take l.i l.slots.items ≡ take l.from l.fn.slots.items ++ replicate (l.i - l.from) l.item)

abbrev pub decreases-loop-i : goal.decreases-loop-i
decreases-loop-i g l = l.to - l.i
