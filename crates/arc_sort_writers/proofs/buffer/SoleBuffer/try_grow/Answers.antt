-- The buffer's list stays, and has more places.
use Rattle.std.proofs.Common.{sym, ◌∙◌}
use Rattle.arc_owners.specs.memory.SoleBoxes.{sole_in, sole_value}
use Rattle.arc_sort_writers.proofs.Growth.{may_answer}
use Rattle.arc_sort_writers.proofs.SoleBuffers.{grown_seen, asked_seen, where_ok}
use Rattle.arc_sort_writers.proofs.buffer.SoleBuffer.try_grow.Goals as goal

pub returns-clause-grown : goal.returns-clause-grown
returns-clause-grown g c =
    let b = c.try_reserve.new.self in
    where_ok c.try_reserve.result
    (λ room.
    let seen = grown_seen g.B.Buffer.list g.B.Buffer.places g.S.Slice.DROPS g.H.Mark.whole
    (sole_in c.self.inside.count) (sole_value c.self.inside.count) c.in-Buffer.held
    (sym c.get_mut.ensures.value ∙ c.in-Buffer.is) c.self.inside.start c.self.inside.end
    c.args.self.now c.self.view_is c.self.invariant b c.args.additional
    c.try_reserve.ensures.list room c.requires in
    (g.B.Buffer.places b, seen.0, seen.1))
    c.try_reserve.ensures.ok

pub returns-clause-own : goal.returns-clause-own
returns-clause-own g c =
    let b = c.try_reserve.new.self in
    let buffers = g.B.Buffer in let writers = g.B.BufferMut in
    asked_seen buffers.list buffers.places g.S.Slice.DROPS g.H.Mark.whole
    (sole_in c.self.inside.count) (sole_value c.self.inside.count) c.in-Buffer.held
    (sym c.get_mut.ensures.value ∙ c.in-Buffer.is) c.self.inside.start c.self.inside.end
    c.args.self.now c.self.view_is c.self.invariant writers.grows writers.refuses c.args.additional
    (buffers.places b) c.try_reserve.result
    (may_answer buffers.list buffers.places writers.grows writers.refuses c.in-Buffer.held.buffer
    c.args.additional (buffers.places b) c.try_reserve.result c.try_reserve.ensures.grown
    c.try_reserve.ensures.refused)
