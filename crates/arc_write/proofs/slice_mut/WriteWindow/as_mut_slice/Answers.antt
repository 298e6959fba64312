-- What is written are the items, in the same places.
use Rattle.std.proofs.Common.{refl, ap, ◌∙◌}
use Rattle.arc_block.specs.LayoutFacts.{layout_facts}
use Rattle.arc_write.proofs.Parts.{lent_held, lent_seen}
use Rattle.arc_write.proofs.slice_mut.WriteWindow.as_mut_slice.Goals as goal

pub returns : goal.returns
returns g c =
    let of = g.R.Parts.WriterParts in let parts = c.self.inside.parts in (
      (
        refl,
        λ items. lent_seen g.B.BufferMut.with_part (of.seen parts)
            (of.seen (of.with_list parts items)) c.args.self.now items
            (g.met.R.Parts.WriterParts.keeps parts items) c.self.view_is,
      ),
      record {
        writes_back = tt;
        value = c.as_mut_slice.ensures.value ∙ ap (λ s. s.items) c.self.view_is;
      },
    )

pub invariant_of-self-lent : goal.invariant_of-self-lent
invariant_of-self-lent g c = λ items.
    let of = g.R.Parts.WriterParts in let parts = c.self.inside.parts in
    lent_held (layout_facts g.L.Layout) g.S.Slice.is_legal g.B.BufferMut.with_part (of.seen parts)
    (of.seen (of.with_list parts items)) items (g.met.R.Parts.WriterParts.keeps parts items)
    g.met.S.AnyItems.all_are_legal c.self.invariant
