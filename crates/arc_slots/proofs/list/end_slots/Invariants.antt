use Rattle.arc_slots.proofs.Ended.{AllGone}
use Rattle.arc_slots.proofs.list.end_slots.Given as goal

-- no slot has a window
abbrev pub invariant-loop-slot : goal.invariant-loop-slot
invariant-loop-slot g l = AllGone l.slots.items

abbrev pub decreases-loop-slot : goal.decreases-loop-slot
decreases-loop-slot g l = goal.left-loop-slot g l
