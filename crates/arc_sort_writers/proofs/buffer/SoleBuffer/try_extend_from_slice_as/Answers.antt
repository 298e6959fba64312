-- The block has as many places when some of them are filled.
use Rattle.arc_sort_writers.proofs.Growth.{asked_pushed}
use Rattle.arc_sort_writers.proofs.buffer.SoleBuffer.try_extend_from_slice_as.Goals as goal

pub returns-in-Ok-clause-own : goal.returns-in-Ok-clause-own
returns-in-Ok-clause-own g c =
    let buffers = g.B.Buffer in let writers = g.B.BufferMut in
    asked_pushed buffers.list buffers.places writers.grows writers.refuses _ c.args.self.now
    c.try_reserve_as.new.self c.extend_reserved.new.self c.args.items.now _
    c.extend_reserved.ensures c.in-Ok.ensures.own
