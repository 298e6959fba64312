-- What is written stands in the same places of the buffer.
use Rattle.std.proofs.Common.{refl, ap, ◌∙◌}
use Rattle.arc_owners.specs.memory.SoleBoxes.{sole_in, sole_value}
use Rattle.arc_buffer.specs.Slice.{sub}
use Rattle.arc_block.specs.Contents.{content_items}
use Rattle.arc_block.specs.Given.{Given}
use Rattle.arc_parts.specs.Window.{PartsView}
use Rattle.arc_sort_writers.proofs.SoleBuffers.{lent_held, items_held}
use Rattle.arc_sort_writers.proofs.buffer.SoleBuffer.as_mut_slice.Goals as goal

pub invariant_of-self-lent : goal.invariant_of-self-lent
invariant_of-self-lent g c = λ w.
    let b = c.buffer_mut.result.now in let start = c.self.inside.start in
    let kept = g.met.B.BufferMut.keeps_part b start w in
    (lent_held g.B.Buffer.list g.B.Buffer.places g.S.Slice.DROPS g.H.Mark.whole
    (sole_in c.self.inside.count) (sole_value c.self.inside.count) start c.self.inside.end
    c.args.self.now c.self.view_is c.self.invariant c.get_mut.result.now c.get_mut.ensures.value b
    (g.B.BufferMut.with_part b start w) c.buffer_mut.ensures.value g.B.BufferMut.with_part w refl
    kept.0 kept.1).1

pub returns : goal.returns
returns g c = (
  (
    refl,
    λ w.
        let b = c.buffer_mut.result.now in let start = c.self.inside.start in
        let kept = g.met.B.BufferMut.keeps_part b start w in
        (lent_held g.B.Buffer.list g.B.Buffer.places g.S.Slice.DROPS g.H.Mark.whole
        (sole_in c.self.inside.count) (sole_value c.self.inside.count) start c.self.inside.end
        c.args.self.now c.self.view_is c.self.invariant c.get_mut.result.now c.get_mut.ensures.value
        b
        (g.B.BufferMut.with_part b start w) c.buffer_mut.ensures.value g.B.BufferMut.with_part w
        refl kept.0 kept.1).0,
  ),
  record {
    writes_back = tt;
    value = c.as_mut_part.ensures.value
        ∙ ap (λ xs. sub xs c.self.inside.start c.self.inside.end)
        (items_held g.B.Buffer.list c.get_mut.result.now c.buffer_mut.result.now
        c.buffer_mut.ensures.value
        ∙ ap (λ x. content_items g.B.Buffer.list x) c.get_mut.ensures.value)
        ∙ ap (λ (s : PartsView g.row.S-Item.Denot (Given g.row.B.Denot g.row.M.Denot)). s.items)
        c.self.view_is;
  },
)
