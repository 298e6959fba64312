use Rattle.arc_block.specs.LayoutFacts.{layout_facts}
use Rattle.arc_write.proofs.Held.{more_held}
use Rattle.arc_write.proofs.slice_mut.WriteWindow.try_extend_within.Goals as goal

pub invariant_of-self : goal.invariant_of-self
invariant_of-self g c =
    let of = g.R.Parts.WriterParts in (
      more_held (layout_facts g.L.Layout) c.args.items.now (of.seen c.self.inside.parts)
          (of.seen c.extend_reserved.new.self) c.extend_reserved.ensures c.self.invariant.0,
      ∣ g.met.S.AnyItems.all_are_legal _ ∣₁,
    )
