use Rattle.std.proofs.Common.{◌≡◌, ◌+◌, ◌++◌, length}
use Rattle.std.specs.Vec.{vec_len, vec_capacity}
use Rattle.std.specs.Vec.Iter.{into_iter_items}
use Rattle.arc_block.proofs.block.exact.Given as goal

-- what was moved and what is still to be moved are the items, and the vector has a place for each
abbrev pub invariant-loop-item : goal.invariant-loop-item
invariant-loop-item g l = (l.exact.items ++ into_iter_items l.item-iterator ≡ l.fn.items.items)
    × (vec_len l.exact + length (into_iter_items l.item-iterator) ≡ vec_capacity l.exact)
