-- What was pushed so far follows the items that were there, in the same places.
use Rattle.std.proofs.Common.{◌≡◌, ◌+◌, ◌++◌, take}
use Rattle.std.specs.Vec.{vec_capacity, vec_len}
use Rattle.arc_sort_writers.proofs.vector.write.with_all.Given as goal

abbrev pub invariant-loop-item : goal.invariant-loop-item
invariant-loop-item g l = (vec_capacity l.vec ≡ vec_capacity l.initial.vec)
    × (vec_len l.vec ≡ vec_len l.initial.vec + l.item-index)
    × (l.vec.items ≡ l.initial.vec.items ++ take l.item-index l.items)
