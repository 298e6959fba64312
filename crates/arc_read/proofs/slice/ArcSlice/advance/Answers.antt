-- The items from here on are a range of the list.
use Rattle.std.proofs.Common.{length, sym, ap, ◌∙◌, subst, arith}
use Rattle.arc_buffer.specs.Slice.{IsEdge, IsRange}
use Rattle.arc_block.specs.LayoutFacts.{layout_facts}
use Rattle.arc_block.specs.Given.{Given}
use Rattle.arc_parts.specs.Window.{Window}
use Rattle.arc_read.proofs.Cuts.{keeps}
use Rattle.std.proofs.lemmas.Grind.{common_steps}
use Rattle.arc_read.proofs.slice.ArcSlice.advance.Goals as goal

pub invariant_of-self : goal.invariant_of-self
invariant_of-self g c =
    let boundary = g.S.Subsliceable.boundary in
    let p = c.self.inside.parts in
    let edge = subst (λ (w : Window g.row.S-Item.Denot (Given g.row.B.Denot g.row.M.Denot)).
    IsEdge boundary w.items
    c.args.n) (sym c.self.view_is) c.requires in
    let end = c.len-end.ensures
    ∙ ap (λ (w : Window g.row.S-Item.Denot (Given g.row.B.Denot g.row.M.Denot)).
    length w.items) (sym c.self.view_is)
    in
    keeps g.S.Slice.is_legal boundary g.met.S.Subsliceable.range_is_legal (layout_facts g.L.Layout)
    p _ c.args.n _ c.keep.ensures c.self.invariant
    (λ h. subst (λ n. IsRange boundary p.items c.args.n n) (sym end)
    (record {
      ordered = edge.within;
      within =
          (g.met.S.Subsliceable.ends_are_edges _ h).1.within;
      from = edge.cuts;
      to =
          (g.met.S.Subsliceable.ends_are_edges _ h).1.cuts;
    }))

pub returns : goal.returns
returns g c = grind (arith, common_steps)
