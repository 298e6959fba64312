-- What came so far was pushed one by one, and stands behind the items that were there.
use Rattle.std.proofs.Common.{◌≡◌, ◌++◌}
use Rattle.std.specs.Mem.{type_size}
use Rattle.arc_write.specs.Extend.{PushesEach}
use Rattle.arc_write.proofs.slice_mut.WriteWindow.try_extend.Given as goal

abbrev pub invariant-loop-item : goal.invariant-loop-item
invariant-loop-item g l = (goal.iterator-loop-item g).can_next l.item-iterator
    × (goal.iterator-loop-item g).is_finite l.item-iterator
    × PushesEach g.row.H.Denot g.H.Mark.real g.R.Parts.WriterParts.several g.S.Slice.DROPS
    g.H.Mark.whole (type_size g.row.S-Item) g.B.Buffer.list g.B.Buffer.places g.B.BufferMut.grows
    g.B.BufferMut.refuses l.yielded l.initial.self l.self
    × (l.self.items ≡ l.initial.self.items ++ l.yielded)
