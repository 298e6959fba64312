-- What is left is the first items.
use Rattle.arc_owners.specs.memory.SoleBoxes.{sole_in, sole_value}
use Rattle.arc_sort_writers.proofs.SoleBuffers.{cut_held}
use Rattle.arc_sort_writers.proofs.buffer.SoleBuffer.truncate.Goals as goal

pub returns : goal.returns
returns g c =
    cut_held g.B.Buffer.list g.B.Buffer.places g.S.Slice.DROPS g.H.Mark.whole
    (sole_in c.self.inside.count) (sole_value c.self.inside.count) c.self.inside.start
    c.self.inside.end c.args.self.now c.self.view_is c.self.invariant c.args.len
    c.if-self-len.false
