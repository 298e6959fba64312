-- The first items are a range of the list.
use Rattle.std.proofs.Common.{◌<◌, length, sym, ap, subst, arith}
use Rattle.arc_buffer.specs.Slice.{IsEdge}
use Rattle.arc_block.specs.LayoutFacts.{layout_facts}
use Rattle.arc_block.specs.Given.{Given}
use Rattle.arc_parts.specs.Window.{Window}
use Rattle.arc_read.proofs.Cuts.{keeps}
use Rattle.std.proofs.lemmas.Grind.{common_steps}
use Rattle.arc_read.proofs.slice.ArcSlice.truncate.Goals as goal

pub invariant_of-self : goal.invariant_of-self
invariant_of-self g c =
    let boundary = g.S.Subsliceable.boundary in
    let edge = subst (λ (w : Window g.row.S-Item.Denot (Given g.row.B.Denot g.row.M.Denot)).
    c.args.n < length w.items
    → IsEdge boundary w.items c.args.n) (sym c.self.view_is) c.requires
    (omega (
      arith,
      c.if-n-len.true,
      c.len.ensures,
      ap
          (λ (w : Window g.row.S-Item.Denot (Given g.row.B.Denot g.row.M.Denot)).
          length w.items) c.self.view_is,
    )) in
    keeps g.S.Slice.is_legal boundary g.met.S.Subsliceable.range_is_legal (layout_facts g.L.Layout)
    c.self.inside.parts _ 0 c.args.n c.keep.ensures c.self.invariant
    (λ h. record {
      ordered = omega arith;
      within = edge.within;
      from =
          (g.met.S.Subsliceable.ends_are_edges _ h).0.cuts;
      to = edge.cuts;
    })

pub returns-else-n-len : goal.returns-else-n-len
returns-else-n-len g c = grind (arith, common_steps)
