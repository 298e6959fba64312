use Rattle.std.proofs.Common.{sym}
use Rattle.arc_block.specs.LayoutFacts.{layout_facts}
use Rattle.arc_write.proofs.Cuts.{advanced}
use Rattle.arc_write.proofs.slice_mut.WriteWindow.advance.Goals as goal

pub invariant_of-self : goal.invariant_of-self
invariant_of-self g c =
    let of = g.R.Parts.WriterParts in let laws = g.met.S.Subsliceable in
    advanced (layout_facts g.L.Layout) g.S.Slice.is_legal g.S.Subsliceable.boundary
    laws.range_is_legal laws.ends_are_edges c.args.n (of.seen c.self.inside.parts)
    (of.seen c.advance.new.self) c.args.self.now (sym c.self.view_is) c.requires
    c.self.invariant c.advance.ensures
