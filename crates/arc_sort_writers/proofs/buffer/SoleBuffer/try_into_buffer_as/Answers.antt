-- The items are all of the buffer.
use Rattle.std.proofs.Common.{sym, ◌∙◌}
use Rattle.arc_owners.specs.memory.SoleBoxes.{sole_in, sole_value}
use Rattle.arc_parts.specs.Window.{IsBufferWhole}
use Rattle.arc_sort_writers.proofs.SoleBuffers.{given_there, taken_whole}
use Rattle.arc_sort_writers.proofs.buffer.SoleBuffer.try_into_buffer_as.Goals as goal

pub returns-clause-taken : goal.returns-clause-taken
returns-clause-taken g c =
    let whole : IsBufferWhole c.args.self.items c.args.self.place =
    c.is_whole.ensures.0 c.if-not-is_whole.false in
    let fields = c.into_count-count.result in let was = c.into_count-count.ensures in
    let all = taken_whole g.B.Buffer.list g.B.Buffer.places g.S.Slice.DROPS g.H.Mark.whole
    (sole_in fields.0) (sole_value fields.0) c.into_buffer-held.result
    (sym c.into_value_as.ensures.value ∙ c.into_buffer-held.ensures) fields.1 fields.2 c.args.self
    (sym was.parts) was.within whole in
    (whole, all.0, all.1)

pub returns-clause-itself : goal.returns-clause-itself
returns-clause-itself g c =
    let fields = c.into_count-count.result in let was = c.into_count-count.ensures in
    given_there g.B.Buffer.list g.B.Buffer.places g.S.Slice.DROPS g.H.Mark.whole
    (sole_in fields.0) (sole_value fields.0) c.into_buffer-held.result
    (sym c.into_value_as.ensures.value ∙ c.into_buffer-held.ensures) fields.1 fields.2 c.args.self
    (sym was.parts) was.within
